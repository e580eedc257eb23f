-- Inverses of changes in range are in range, where the rules before them are.
use Rattle.std.proofs.Common.{Bool, List, [], ◌∷◌}
use Rattle.std.specs.Prelude.{find, unwrap_or, Option, Some}
use Rattle.std.specs.List.{AllByRecursion}
use Rattle.std.proofs.lemmas.Bool.{cond_both}
use Rattle.net_base.proofs.MemberLaws.{each_append, each_get_or, each_weaker}
use Rattle.topology.specs.Networks.{Network}
use Rattle.flow_rules.specs.Patterns.{key_eq}
use Rattle.flow_rules.specs.Tables.{rules_at}
use Rattle.flow_rules.specs.declared.rules.Rule.{Rule}
use Rattle.update_model.specs.Changes.{switch_of, rule_of, tables_after}
use Rattle.update_model.proofs.HeldLaws.{each_tables_after}
use Rattle.update_model.specs.Ranges.{IsPlanChange}
use Rattle.update_model.specs.declared.Change.{Change}
use Rattle.update_model.specs.declared.Change.TheVariants.{Insert, Delete, Replace}
use Rattle.law_two_way_runs.specs.Inverse.{rule_with, inverse_of, inverse_round}
use Rattle.round_inverses.specs.Rounds.{inverse_rounds}
use Rattle.round_inverses.specs.Ranges.{ArePlanRounds}
use Rattle.law_plan_rules.specs.PlanRules.{IsPlanRule, ArePlanTables}
use Rattle.law_plan_rules.proofs.UserRules.{rule_of_plan}

-- ---- rules of tables

found : (p : Rule → Bool) (rules : List Rule) (r : Rule) → AllByRecursion IsPlanRule rules → IsPlanRule r → IsPlanRule (unwrap_or (find p rules) r)
found p [] r all one = one
found p (q ∷ rules) r all one =
    cond_both (p q) (Some q) (find p rules) (λ (o : Option Rule). IsPlanRule (unwrap_or o r)) (λ e. all.0) (λ e. found p rules r all.1 one)

-- ---- changes

module _ (net : Network) where
  inverse_range : (before : List Rule) (c : Change) → AllByRecursion IsPlanRule before → IsPlanChange net c → IsPlanChange net (inverse_of before c)
  inverse_range before (Insert s r) all h = record { switch = h.switch; priority = h.priority; priority_most = h.priority_most; port = h.port; vlan = h.vlan; dst = h.dst; action = h.action }
  inverse_range before (Delete s r) all h = record { switch = h.switch; priority = h.priority; priority_most = h.priority_most; port = h.port; vlan = h.vlan; dst = h.dst; action = h.action }
  inverse_range before (Replace s r) all h =
      let f : IsPlanRule (rule_with before r.key r) = found (λ q. key_eq q.key r.key) before r all (rule_of_plan net (Replace s r) h) in
      record { switch = h.switch; priority = f.priority; priority_most = f.priority_most; port = f.port; vlan = f.vlan; dst = f.dst; action = f.action }

  round_range : (round : List Change) (tables : List (List Rule)) → AllByRecursion (IsPlanChange net) round → ArePlanTables tables → AllByRecursion (IsPlanChange net) (inverse_round tables round)
  round_range [] tables plan all = tt
  round_range (c ∷ round) tables plan all =
      each_append (IsPlanChange net) (inverse_round tables round) (inverse_of (rules_at tables (switch_of c)) c ∷ []) (round_range round tables plan.1 all)
      (inverse_range (rules_at tables (switch_of c)) c (each_get_or (AllByRecursion IsPlanRule) tables (switch_of c).0 [] all tt) plan.0, tt)

  pub rounds_range : (rounds : List (List Change)) (tables : List (List Rule)) → ArePlanRounds net rounds → ArePlanTables tables → ArePlanRounds net (inverse_rounds tables rounds)
  rounds_range [] tables plan all = tt
  rounds_range (round ∷ rounds) tables plan all =
      let rules = each_weaker (IsPlanChange net) (λ c. IsPlanRule (rule_of c)) (rule_of_plan net) round plan.0 in
      (round_range round tables plan.0 all, rounds_range rounds (tables_after round tables) plan.1 (each_tables_after IsPlanRule round tables all rules))
