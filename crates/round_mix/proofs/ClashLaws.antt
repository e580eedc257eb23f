-- Clashes by positions.
use Rattle.std.proofs.Common.{◌≡◌, ℕ, zero, suc, ◌+◌, ◌<◌, ◌≤◌, List, [], ◌∷◌, length, get_or, sym, ◌∙◌, subst, ap, inl, inr, arith}
use Rattle.std.specs.Prelude.{slice_get, Some}
use Rattle.flow_rules.specs.Overlaps.{IsClash}
use Rattle.flow_rules.specs.declared.rules.Rule.{Rule}
use Rattle.std.proofs.lemmas.Bool.{cases_lt}
use Rattle.std.proofs.lemmas.List.{length-map}
use Rattle.flow_rules.specs.Frees.{IsFree, IsFreeUpTo}
use Rattle.round_mix.specs.Marks.{rules_of}
use Rattle.net_base.proofs.ItemLaws.{past_end}
use Rattle.flow_rules.specs.Overlaps.{IsClashAt}
use Rattle.round_mix.specs.declared.MarkedRule.{MarkedRule}

pub rule_at : (marks : List MarkedRule) (i : ℕ) (m : MarkedRule) → i < length marks → m ≡ get_or marks i m → slice_get (rules_of marks) i ≡ Some m.rule
rule_at [] i m within is = absurd (omega arith)
rule_at (n ∷ ns) zero m within is = ap (λ (x : MarkedRule). Some x.rule) (sym is)
rule_at (n ∷ ns) (suc i) m within is = rule_at ns i m (omega arith) is

same_some : {x y : Rule} → Some x ≡ Some y → x ≡ y
same_some e = cc

-- the rules at two positions that clash
clash_between : (marks : List MarkedRule) (i j : ℕ) (m n : MarkedRule) → i < length marks → j < length marks → m ≡ get_or marks i m → n ≡ get_or marks j n
    → IsClashAt (rules_of marks) i j → IsClash m.rule n.rule
clash_between marks i j m n i_in j_in m_is n_is at =
    let e : at.one ≡ m.rule = same_some (sym at.one_at ∙ rule_at marks i m i_in m_is) in
    let f : at.other ≡ n.rule = same_some (sym at.other_at ∙ rule_at marks j n j_in n_is) in
    subst (λ x. IsClash x n.rule) e (subst (λ x. IsClash at.one x) f at.clash)

module _ (marks : List MarkedRule) (i j : ℕ) (m n : MarkedRule) (i_in : i < length marks) (j_in : j < length marks) (m_is : m ≡ get_or marks i m) (n_is : n ≡ get_or marks j n) where
  pub clash_at : IsClash m.rule n.rule → IsClashAt (rules_of marks) i j
  clash_at clash = record { one = m.rule; other = n.rule; one_at = rule_at marks i m i_in m_is; other_at = rule_at marks j n j_in n_is; clash = clash }

  pub clash_of : IsClashAt (rules_of marks) i j → IsClash m.rule n.rule
  clash_of at = clash_between marks i j m n i_in j_in m_is n_is at

  -- one rule more that doesn't clash
  pub free_more : ¬ IsClash m.rule n.rule → IsFreeUpTo (rules_of marks) i j → IsFreeUpTo (rules_of marks) i (j + 1)
  free_more apart free l above below at =
      elim (cases_lt l j) [
        | inl less ↦ free l above less at
        | inr more ↦ (let e : l ≡ j = omega arith in apart (clash_of (subst (λ (k : ℕ). IsClashAt (rules_of marks) i k) e at)))
      ]

-- no rule is left
pub free_end : (marks : List MarkedRule) (i j : ℕ) → length marks ≤ j → IsFreeUpTo (rules_of marks) i j → IsFree (rules_of marks) i
free_end marks i j end free l above at =
    let within = past_end (rules_of marks) l at.other at.other_at in
    let same = length-map marks (λ (x : MarkedRule). x.rule) in
    free l above (omega arith) at
