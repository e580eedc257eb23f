-- Tables without rules are a user configuration.
use Rattle.std.proofs.Common.{◌≡◌, ℕ, zero, suc, List, [], length, replicate, get_or, refl, sym, ◌∙◌, ap, subst, arith}
use Rattle.std.specs.Prelude.{sum_by}
use Rattle.std.specs.List.{AllByRecursion}
use Rattle.std.proofs.lemmas.List.{length-replicate}
use Rattle.net_base.specs.declared.ids.SwitchId.{SwitchId}
use Rattle.topology.specs.Networks.{Network, switch_count}
use Rattle.flow_rules.specs.Tables.{IsTable, IsClear, rules_at}
use Rattle.flow_rules.specs.declared.rules.Rule.{Rule}
use Rattle.path_walk.specs.UserConfigs.{IsUserConfig, IsUserRule}

none_at : (n i : ℕ) → let none : List Rule = [] in get_or (replicate n none) i none ≡ none
none_at zero i = refl
none_at (suc n) zero = refl
none_at (suc n) (suc i) = none_at n i

none_in_all : (n : ℕ) → let none : List Rule = [] in sum_by length (replicate n none) ≡ 0
none_in_all zero = refl
none_in_all (suc n) = let rest = none_in_all n in omega arith

pub empty_user : (net : Network) (tables : List (List Rule)) (n : ℕ) → tables ≡ replicate n [] → n ≡ switch_count net → IsUserConfig net tables
empty_user net tables n is count = record {
  count = ap length is ∙ length-replicate n [] ∙ count;
  few = let sum = ap (sum_by length) is ∙ none_in_all n in omega arith;
  distinct = λ s. subst IsTable (sym (none s)) tt;
  clear = λ s. subst IsClear (sym (none s)) (λ h a b in_a in_b over_a over_b same. absurd in_a);
  fits = λ s less. let len = ap length (none s) in omega arith;
  rules = λ s. subst (AllByRecursion (IsUserRule net s)) (sym (none s)) tt;
}
  where
    none : (s : SwitchId) → rules_at tables s ≡ []
    none s = ap (λ (ts : List (List Rule)). rules_at ts s) is ∙ none_at n s.0
