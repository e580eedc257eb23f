use Rattle.std.proofs.Common.{List, length}
use Rattle.flow_rules.specs.declared.rules.Rule.{Rule}
use Rattle.path_walk.specs.UserConfigs.{IsUserConfig}
use Rattle.flow_rules.specs.Tables.{rules_of_all}
use Rattle.update_model.specs.Changes.{tables_after}
use Rattle.update_model.specs.Remaining.{remaining_changes}
use Rattle.update_model.specs.declared.Change.{Change}
use Rattle.round_planner.specs.Failures.{AreLeft}
use Rattle.round_planner.specs.Searching.{IsAt}
use Rattle.round_planner.proofs.searching.Search.run_through.Given as goal

abbrev pub invariant-searching : goal.invariant-searching
invariant-searching l =
    (old : List (List Rule)) (changes : List Change) → IsUserConfig l.goal.net old → IsAt l.goal old changes l.fn.self → AreLeft l.goal (tables_after changes old) l.fn.left.items
    → (now : List Change) × IsAt l.goal old now l.self × AreLeft l.goal (tables_after now old) l.left.items

abbrev pub decreases-searching : goal.decreases-searching
decreases-searching l = length (remaining_changes (rules_of_all l.self.trial.tables) l.goal.new)
