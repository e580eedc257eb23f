-- What is asked of the classes of a target, and of what the code keeps of one.
use Rattle.std.specs.Prelude.{◌≡◌, ◌<◌, Bool, List, length}
use Rattle.topology.specs.Networks.{Network}
use Rattle.flow_rules.specs.Tables.{TableState, rules_of_all}
use Rattle.path_walk.specs.UserConfigs.{IsUserConfig}
use Rattle.dest_classes.specs.Classes.{ClassList, class_count, atom_count}
use Rattle.dest_classes.specs.declared.Class.{Class}
use Rattle.demands.specs.Duties.{PacketDuties, ClassDuties, duties_of}
use Rattle.table_difference.specs.Targets.{Target}
use Rattle.class_watch.specs.Classes.{AreClasses}
use Rattle.evidence_store.specs.Last.{SetsState, HoldsLast}

-- what is asked of the packets of a class
abbrev pub duties_in : Target → Class → PacketDuties
duties_in to class = duties_of to.demands class.entry class.first

-- the new tables are a user configuration, the classes are of the network, and the duties and the list are theirs
pub record IsGoal (net : Network) (new : List TableState) (duties : ClassDuties) (classes : ClassList) (list : List Class) : Type 0 where
  pub user : IsUserConfig net (rules_of_all new)
  pub duties_of_them : duties.classes ≡ classes
  pub hosts : classes.hosts ≡ net.hosts
  pub listed : AreClasses classes list

-- where there are classes, there is a mark for each atom
abbrev pub HasAtoms : ClassList → List Bool → Type 0
HasAtoms classes looked = 0 < class_count classes → length looked ≡ atom_count classes

-- the least before sets that were found last, if any were, are those of a class
abbrev pub HoldsLastOf : Target → List SetsState → Type 0
HoldsLastOf to last = HoldsLast to.net (record { demands = to.demands; classes = to.classes }) last
