-- The tables of all switches when a rule is added to one.
use Rattle.std.proofs.Common.{◌≡◌, ℕ, Bool, true, false, List, [], ◌∷◌, ◌++◌, set, refl, sym, ap, ◌∙◌}
use Rattle.std.specs.Prelude.{Some, slice_get, Result, Ok, Err, MatchResult}
use Rattle.std.specs.List.{list_any}
use Rattle.net_base.specs.Reading.{Fails}
use Rattle.net_base.specs.declared.ids.SwitchId.{SwitchId}
use Rattle.net_base.proofs.Turns.{Fails-bind}
use Rattle.flow_rules.proofs.TableLaws.{rules_set, rules_get}
use Rattle.flow_rules.specs.Overlaps.{keys_clash}
use Rattle.flow_rules.specs.Patterns.{key_eq}
use Rattle.flow_rules.specs.Tables.{TableState, rules_of_all}
use Rattle.flow_rules.specs.declared.rules.Rule.{Rule}
use Rattle.flow_stats.specs.declared.fault.StatsFault.{StatsFault}
use Rattle.flow_stats.specs.declared.fault.StatsFault.TheVariants.{Memory, KeyTwice, Overlap}
use Rattle.flow_stats.specs.Tables.{rules_with, with_rule}

-- what adding to one table gives, it gives to all
pub added : (place : ℕ) (tables : List TableState) (s : SwitchId) (rule : Rule) (t new : TableState) (r : Result (Unit {0}) StatsFault) → slice_get tables s.0 ≡ Some t
    → MatchResult r (λ _. rules_with place t.rules rule ≡ Ok new.rules) (λ e. Fails Memory e (rules_with place t.rules rule))
    → MatchResult r (λ _. with_rule place (rules_of_all tables) s rule ≡ Ok (rules_of_all (set tables s.0 new))) (λ e. Fails Memory e (with_rule place (rules_of_all tables) s rule))
unfolding with_rule
added place tables s rule t new (Ok u) at h =
    rw (rules_get tables s.0 t at, h) (ap (λ (ts : List (List Rule)). let r : Result (List (List Rule)) StatsFault = Ok ts in r) (sym (rules_set tables s.0 new)))
added place tables s rule t new (Err e) at h =
    rw (rules_get tables s.0 t at) (Fails-bind Memory e (rules_with place t.rules rule) (λ rules. Ok (set (rules_of_all tables) s.0 rules)) h)

-- what is found of a rule, and what adding it gives
module _ (place : ℕ) (rules : List Rule) (rule : Rule) where
  pub twice : (same : Bool) → same ≡ list_any (λ q. key_eq q.key rule.key) rules → same ≡ true → rules_with place rules rule ≡ Err (KeyTwice place)
  unfolding rules_with
  twice same is on = rw (sym is ∙ on) refl

  pub overlaps : (same clash : Bool) → same ≡ list_any (λ q. key_eq q.key rule.key) rules → same ≡ false → clash ≡ list_any (λ q. keys_clash q.key rule.key) rules → clash ≡ true
      → rules_with place rules rule ≡ Err (Overlap place)
  unfolding rules_with
  overlaps same clash is off clash_is on = rw (sym is ∙ off, sym clash_is ∙ on) refl

  pub fits : (room new : List Rule) (same clash : Bool) → same ≡ list_any (λ q. key_eq q.key rule.key) rules → same ≡ false → clash ≡ list_any (λ q. keys_clash q.key rule.key) rules → clash ≡ false
      → room ≡ rules → new ≡ room ++ rule ∷ [] → rules_with place rules rule ≡ Ok new
  unfolding rules_with
  fits room new same clash is off clash_is apart kept pushed =
      rw (sym is ∙ off, sym clash_is ∙ apart) (ap (λ (rs : List Rule). let r : Result (List Rule) StatsFault = Ok rs in r) (sym (pushed ∙ ap (λ rs. rs ++ rule ∷ []) kept)))
