use Rattle.std.proofs.Common.{◌≡◌, map, take}
use Rattle.std.specs.Prelude.{None}
use Rattle.std.specs.List.{AllByRecursion}
use Rattle.round_planner.specs.declared.left.RemainingChange.{RemainingChange}
use Rattle.round_planner.proofs.left.untried.Given as goal

abbrev pub invariant-loop-change : goal.invariant-loop-change
invariant-loop-change l =
    (map (λ (x : RemainingChange). x.change) l.left.items ≡ take l.change-index l.changes) × AllByRecursion (λ (x : RemainingChange). x.failure ≡ None) l.left.items
