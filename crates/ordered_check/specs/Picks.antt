-- What is kept of the picks of an ordered plan while its rounds are checked: the pick that is in force for each class.
use Rattle.std.specs.Prelude.{◌≡◌, ℕ, ◌<◌, ◌≤◌, List, length, take, drop, slice_get, Option, Some, None}
use Rattle.std.specs.List.{AllByRecursion}
use Rattle.net_base.specs.Members.{IsIn}
use Rattle.dest_classes.specs.Classes.{ClassList, class_count}
use Rattle.certificates.specs.Ordered.{IsPickInForce}
use Rattle.certificates.specs.declared.OrderedPick.{OrderedPick}

-- how many picks were taken up, and for each class the pick in force
pub record PicksState : Type 0 where
  pub next : ℕ
  pub of_class : List (Option OrderedPick)

-- the pick in force for a round number and a class; none where no pick of the class has begun
abbrev pub IsKeptPick : List OrderedPick → ℕ → ℕ → Option OrderedPick → Type 0
IsKeptPick picks round n None = (pick : OrderedPick) → IsIn pick picks → pick.class ≡ n → ¬ (pick.round ≤ round)
IsKeptPick picks round n (Some pick) = IsPickInForce picks round n pick

-- the picks up to a round number were taken up, and for each class its pick in force is kept
pub record PicksStand (picks : List OrderedPick) (round : ℕ) (state : PicksState) : Type 0 where
  pub within : state.next ≤ length picks
  pub begun : AllByRecursion (λ p. p.round ≤ round) (take state.next picks)
  pub later : AllByRecursion (λ p. round < p.round) (drop state.next picks)
  pub each : (n : ℕ) (kept : Option OrderedPick) → slice_get state.of_class n ≡ Some kept → IsKeptPick picks round n kept

-- there is room for the pick of each class
abbrev pub HasPickRoom : ClassList → PicksState → Type 0
HasPickRoom classes state = length state.of_class ≡ class_count classes
