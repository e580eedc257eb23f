use Rattle.std.proofs.Common.{Bool, List, sym, ◌∙◌, subst, ap}
use Rattle.std.proofs.lemmas.Result.{IfOk-weaker}
use Rattle.flow_rules.specs.Tables.{TableState, rules_of_all}
use Rattle.flow_rules.specs.declared.rules.Rule.{Rule}
use Rattle.path_walk.specs.UserConfigs.{IsUserConfig}
use Rattle.update_model.specs.Changes.{tables_after}
use Rattle.update_model.specs.Remaining.{remaining_changes}
use Rattle.update_model.specs.declared.Change.{Change}
use Rattle.table_difference.specs.Targets.{Target}
use Rattle.round_planner.specs.Failures.{AreLeft}
use Rattle.round_planner.specs.Searching.{IsAt, IsEnded}
use Rattle.round_planner.proofs.RunLaws.{left_untried}
use Rattle.round_planner.proofs.searching.Search.run.Goals as goal

pub run_through-requires : goal.run_through-requires
run_through-requires c =
    let (old, changes, user, at) = c.requires in
    let here = subst (IsAt c.args.goal.now old changes) (sym c.self.view_is) at in
    let are = c.in_ok-left.ensures.changes ∙ c.deref.ensures.value ∙ c.in_ok-changes.ensures
    ∙ ap (λ (ts : List TableState). remaining_changes (rules_of_all ts) (rules_of_all c.goal.inside.new.now)) c.tables.ensures
    ∙ ap (λ (a : Target). remaining_changes (rules_of_all c.self.inside.trial.tables) a.new) c.goal.view_is in
    (old, changes, user, at, left_untried c.args.goal.now old changes _ c.in_ok-left.left.items here are c.in_ok-left.ensures.untried)

pub returns : goal.returns
returns c =
    let to = c.args.goal.now in
    let are = c.in_ok-left.ensures.changes ∙ c.deref.ensures.value ∙ c.in_ok-changes.ensures
    ∙ ap (λ (ts : List TableState). remaining_changes (rules_of_all ts) (rules_of_all c.goal.inside.new.now)) c.tables.ensures
    ∙ ap (λ (a : Target). remaining_changes (rules_of_all c.self.inside.trial.tables) a.new) c.goal.view_is in
    IfOk-weaker c.run_through.result
    (λ (none : Bool). (old : List (List Rule)) (changes : List Change) → IsUserConfig to.net old → IsAt to old changes c.args.self.now
    → AreLeft to (tables_after changes old) c.in_ok-left.left.items → IsEnded to old c.run_through.new.self none)
    (λ (none : Bool). (old : List (List Rule)) (changes : List Change) → IsUserConfig to.net old → IsAt to old changes c.args.self.now → IsEnded to old c.run_through.new.self none)
    (λ none ended old changes user at.
    let here = subst (IsAt to old changes) (sym c.self.view_is) at in
    ended old changes user at (left_untried to old changes _ c.in_ok-left.left.items here are c.in_ok-left.ensures.untried))
    c.run_through.ensures
