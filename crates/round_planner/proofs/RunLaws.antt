-- Where a search begins, goes on and ends.
use Rattle.std.proofs.Common.{◌≡◌, ◌<◌, List, [], ◌∷◌, ◌++◌, length, map, sym, ◌∙◌, subst, ap, arith, length-append}
use Rattle.std.specs.Prelude.{Option, None, IfSome}
use Rattle.std.specs.List.{AllByRecursion}
use Rattle.net_base.proofs.MemberLaws.{each_weaker}
use Rattle.topology.specs.Networks.{IsNetwork}
use Rattle.flow_rules.specs.Tables.{rules_of_all}
use Rattle.flow_rules.specs.declared.rules.Rule.{Rule}
use Rattle.path_walk.specs.UserConfigs.{IsUserConfig}
use Rattle.update_model.specs.Changes.{tables_after}
use Rattle.update_model.specs.Remaining.{remaining_changes}
use Rattle.update_model.specs.declared.Change.{Change}
use Rattle.round_planner.specs.declared.failing.Failure.{Failure}
use Rattle.round_planner.specs.declared.left.RemainingChange.{RemainingChange}
use Rattle.table_difference.specs.Targets.{Target}
use Rattle.round_planner.specs.Failures.{IsFailure, HasStanding, AreLeft}
use Rattle.round_planner.specs.Searching.{SearchState, IsAt}
use Rattle.round_planner.proofs.EndLaws.{found_count}

-- one change more leaves one less
pub one_less : (to : Target) (old : List (List Rule)) → IsNetwork to.net → IsUserConfig to.net old → IsUserConfig to.net to.new
    → (changes : List Change) (c : Change) (s t : SearchState) → IsAt to old changes s → IsAt to old (changes ++ c ∷ []) t
    → length (remaining_changes (rules_of_all t.trial.tables) to.new) < length (remaining_changes (rules_of_all s.trial.tables) to.new)
one_less to old net old_user new_user changes c s t at next =
    let before = found_count to old net old_user new_user changes at.stands.found in
    let after = found_count to old net old_user new_user (changes ++ c ∷ []) next.stands.found in
    let more = length-append changes (c ∷ []) in
    let here = ap (λ ts. length (remaining_changes ts to.new)) at.tables in
    let there = ap (λ ts. length (remaining_changes ts to.new)) next.tables in
    omega arith

-- where none of the changes that remain was tried yet
pub left_untried : (to : Target) (old : List (List Rule)) (changes : List Change) (s : SearchState) (left : List RemainingChange) → IsAt to old changes s
    → map (λ (l : RemainingChange). l.change) left ≡ remaining_changes (rules_of_all s.trial.tables) to.new → AllByRecursion (λ (l : RemainingChange). l.failure ≡ None) left
    → AreLeft to (tables_after changes old) left
left_untried to old changes s left at are untried = record {
  changes = are ∙ ap (λ ts. remaining_changes ts to.new) at.tables;
  standing = each_weaker (λ (l : RemainingChange). l.failure ≡ None) (HasStanding to (tables_after changes old)) stands left untried;
}
  where
    stands : (l : RemainingChange) → l.failure ≡ None → HasStanding to (tables_after changes old) l
    stands l none = subst (λ (f : Option Failure). IfSome f (λ g. IsFailure to (tables_after changes old) l.change g)) (sym none) tt
