-- The tables after the last round and the new ones.
use Rattle.std.proofs.Common.{◌≡◌, ◌<◌, ℕ, List, length, sym, ◌∙◌, subst, ap, inl}
use Rattle.std.proofs.lemmas.List.{length-map}
use Rattle.net_base.specs.Members.{IsSameSet}
use Rattle.net_base.specs.declared.ids.SwitchId.{SwitchId}
use Rattle.flow_rules.specs.Tables.{TableState, rules_at, rules_of_all}
use Rattle.flow_rules.specs.declared.rules.Rule.{Rule}
use Rattle.topology.specs.Networks.{Network, switch_count}
use Rattle.path_walk.specs.UserConfigs.{IsUserConfig}
use Rattle.update_model.specs.Mixtures.{Rollout, tables_before}
use Rattle.certificates.specs.Updates.{Task, rollout}
use Rattle.certificates.specs.declared.Evidence.{Evidence}
use Rattle.check_reasons.specs.Cases.{CaseView}
use Rattle.check_reasons.specs.Ranks.{end_start}
use Rattle.check_reasons.specs.Reasons.{wrong_end}
use Rattle.check_reasons.specs.Passed.{IsFirstFrom}
use Rattle.check_reasons.specs.declared.reason.Reason.TheVariants.{WrongEnd}
use Rattle.round_tables.specs.Ends.{AreSameAt}
use Rattle.update_model.proofs.RoundLaws.{length-settled}
use Rattle.plan_checker.proofs.FirstReasons.{first_at_end}

module _ (t : Task) (evidence : Evidence) (tables new : List TableState) (before : rules_of_all tables ≡ tables_before (rollout t) (length t.rounds)) (is_new : rules_of_all new ≡ t.update.new) where
  -- the tables at a switch are those after the last round and the new ones
  pub end_same : (s : SwitchId) → AreSameAt tables new s → IsSameSet (rules_at (tables_before (rollout t) (length t.rounds)) s) (rules_at t.update.new s)
  end_same s h =
      subst (λ (ts : List (List Rule)). IsSameSet (rules_at ts s) (rules_at t.update.new s)) before
      (subst (λ (ts : List (List Rule)). IsSameSet (rules_at (rules_of_all tables) s) (rules_at ts s)) is_new h)

  end_differs : (s : SwitchId) → IsSameSet (rules_at (tables_before (rollout t) (length t.rounds)) s) (rules_at t.update.new s) → AreSameAt tables new s
  end_differs s h =
      subst (λ (ts : List (List Rule)). IsSameSet (rules_at ts s) (rules_at (rules_of_all new) s)) (sym before)
      (subst (λ (ts : List (List Rule)). IsSameSet (rules_at (tables_before (rollout t) (length t.rounds)) s) (rules_at ts s)) (sym is_new) h)

  -- the first switch at which they differ is the first reason from the last tables on
  pub wrong_first : (s : SwitchId) → ¬ AreSameAt tables new s → ((o : SwitchId) → o.0 < s.0 → AreSameAt tables new o) → IsFirstFrom t evidence end_start (WrongEnd s)
  wrong_first s differ below = record {
    position = 0;
    holds = inl (wrong_end s (λ same. differ (end_differs s same)));
    first = first_at_end t evidence s (λ o less. end_same o (below o less));
  }

-- there are as many tables as old ones
pub count_tables : (u : Rollout) (k : ℕ) (tables : List TableState) → rules_of_all tables ≡ tables_before u k → length tables ≡ length u.old
count_tables u k tables same = sym (length-map tables (λ (t : TableState). t.rules)) ∙ ap length same ∙ length-settled u.rounds k u.old

-- and in a case as many as the network has switches
pub count_case : (v : CaseView) (k : ℕ) (net : Network) (old : List TableState) (tables : List TableState) → rules_of_all tables ≡ tables_before (rollout v.task) k
    → rules_of_all old ≡ v.task.update.old → IsUserConfig net (rules_of_all old) → length tables ≡ switch_count net
count_case v k net old tables same is user = count_tables (rollout v.task) k tables same ∙ sym (ap length is) ∙ user.count
