-- What is kept of the classes of an ordered plan while its rounds are checked.
use Rattle.std.specs.Prelude.{ℕ, ◌≡◌, ◌<◌, Bool, List, length}
use Rattle.dest_classes.specs.Classes.{ClassList, class_count, atom_count}
use Rattle.dest_classes.specs.declared.Class.{Class}
use Rattle.certificates.specs.Updates.{Task}
use Rattle.certificates.specs.declared.OrderedEvidence.{OrderedEvidence}
use Rattle.class_watch.specs.Judges.{HasRoomFor}
use Rattle.ordered_check.specs.Firsts.{IsFoundBelow}
use Rattle.ordered_check.specs.Guarded.{HoldsGuarded}
use Rattle.ordered_check.specs.Picks.{PicksState, HasPickRoom}
use Rattle.ordered_check.specs.declared.judge.OrderedFound.{OrderedFound}

-- the picks in force; for each atom whether its classes are looked at; the classes, and for each which switches its last walk came
-- to, and whether it had its certificate in the round that was judged last
pub record OrderedState : Type 0 where
  pub picks : PicksState
  pub looked : List Bool
  pub classes : List Class
  pub came : List ℕ
  pub good : List Bool

-- there is room for the classes
pub record HasClassRoom (classes : ClassList) (state : OrderedState) : Type 0 where
  pub picks : HasPickRoom classes state.picks
  pub looked : 0 < class_count classes → length state.looked ≡ atom_count classes
  pub rounds : HasRoomFor classes state.classes state.came state.good

-- what was found tells of the classes below a number in round k; the class that was found guarded last is guarded
pub record TellsOf (t : Task) (e : OrderedEvidence) (k : ℕ) (found : OrderedFound) (below : ℕ) : Type 0 where
  pub reason : IsFoundBelow t e k below found.reason
  pub guarded : HoldsGuarded t e found.guarded
