use Rattle.std.proofs.Common.{◌≡◌, List, map, take}
use Rattle.std.specs.List.{AllByRecursion}
use Rattle.flow_rules.specs.declared.rules.Rule.{Rule}
use Rattle.path_walk.specs.UserConfigs.{IsUserConfig}
use Rattle.update_model.specs.Changes.{tables_after}
use Rattle.update_model.specs.declared.Change.{Change}
use Rattle.round_planner.specs.declared.left.RemainingChange.{RemainingChange}
use Rattle.round_planner.specs.Search.{Qualifies}
use Rattle.round_planner.specs.Failures.{HasStanding, AreLeft}
use Rattle.round_planner.specs.Searching.{IsAt}
use Rattle.round_planner.proofs.searching.Search.take_first.Given as goal

abbrev pub invariant-loop-place : goal.invariant-loop-place
invariant-loop-place l =
    (map (λ (x : RemainingChange). x.change) l.left ≡ map (λ (x : RemainingChange). x.change) l.fn.left)
    × ((old : List (List Rule)) (changes : List Change) → IsUserConfig l.goal.net old → IsAt l.goal old changes l.fn.self → AreLeft l.goal (tables_after changes old) l.fn.left
    → AllByRecursion (λ (x : RemainingChange). ¬ Qualifies l.goal (tables_after changes old) x.change) (take l.place l.left)
    × AllByRecursion (HasStanding l.goal (tables_after changes old)) l.left × IsAt l.goal old changes l.self)
