-- What the rounds of an update are to reach.
use Rattle.std.specs.Prelude.{List}
use Rattle.topology.specs.Networks.{Network}
use Rattle.flow_rules.specs.declared.rules.Rule.{Rule}
use Rattle.dest_classes.specs.Classes.{ClassList}
use Rattle.demands.specs.Duties.{DemandView}
use Rattle.table_difference.specs.SameClasses.{classes_before}

-- what rounds are for: a network, the new tables, demands, and the classes
pub record Target : Type 0 where
  pub net : Network
  pub new : List (List Rule)
  pub demands : List DemandView
  pub classes : ClassList

-- from the old tables to the new ones, by the classes of both and of the demands
abbrev pub target_between : Network → List (List Rule) → List (List Rule) → List DemandView → Target
target_between net old new demands = record { net = net; new = new; demands = demands; classes = classes_before net old new demands }
