use Rattle.std.proofs.Common.{◌≡◌, ◌<◌, List, length, map, take, drop}
use Rattle.std.specs.List.{AllByRecursion}
use Rattle.flow_rules.specs.declared.rules.Rule.{Rule}
use Rattle.update_model.specs.Changes.{switch_of, tables_after_change}
use Rattle.round_planner.specs.declared.left.RemainingChange.{RemainingChange}
use Rattle.table_difference.specs.Targets.{Target}
use Rattle.round_planner.specs.Failures.{HasStanding, AreOfUsers}
use Rattle.round_planner.proofs.left.forget_touched.Given as goal

abbrev pub invariant-loop-one : goal.invariant-loop-one
invariant-loop-one l =
    (map (λ (x : RemainingChange). x.change) l.left ≡ map (λ (x : RemainingChange). x.change) l.fn.left)
    × (drop l.one-index l.left ≡ drop l.one-index l.fn.left)
    × ((to : Target) (tables : List (List Rule)) → AreOfUsers tables l.fn.left → (switch_of l.made).0 < length tables → AllByRecursion (HasStanding to tables) l.fn.left
    → AllByRecursion (HasStanding to (tables_after_change l.made tables)) (take l.one-index l.left))
