-- Clashes by positions, and clear tables.
use Rattle.std.proofs.Common.{◌≡◌, ◌⊎◌, ◌↔◌, ℕ, zero, suc, ◌+◌, ◌<◌, ◌≤◌, List, [], ◌∷◌, length, get_or, refl, sym, ◌∙◌, subst, ap, inl, inr, arith}
use Rattle.std.specs.Prelude.{slice_get, Some, None, IsNone, MatchOption, Option}
use Rattle.std.proofs.lemmas.Bool.{cases_lt, false≢true}
use Rattle.net_base.specs.Members.{IsIn}
use Rattle.flow_rules.specs.Frees.{IsFree, IsFreeUpTo}
use Rattle.flow_rules.specs.Overlaps.{IsClash, IsClashAt, IsLeastClash}
use Rattle.flow_rules.specs.Tables.{IsTable, IsClear, keys_of}
use Rattle.flow_rules.specs.declared.rules.Rule.{Rule}
use Rattle.net_base.proofs.ItemLaws.{in_from_get, past_end}

pub rule_at : (rules : List Rule) (i : ℕ) (m : Rule) → i < length rules → m ≡ get_or rules i m → slice_get rules i ≡ Some m
rule_at [] i m within is = absurd (omega arith)
rule_at (n ∷ ns) zero m within is = ap Some (sym is)
rule_at (n ∷ ns) (suc i) m within is = rule_at ns i m (omega arith) is

same_some : {x y : Rule} → Some x ≡ Some y → x ≡ y
same_some e = cc

module _ (rules : List Rule) (i j : ℕ) (m n : Rule) (i_in : i < length rules) (j_in : j < length rules) (m_is : m ≡ get_or rules i m) (n_is : n ≡ get_or rules j n) where
  pub clash_at : IsClash m n → IsClashAt rules i j
  clash_at clash = record { one = m; other = n; one_at = rule_at rules i m i_in m_is; other_at = rule_at rules j n j_in n_is; clash = clash }

  -- the rules at two positions that clash
  pub clash_of : IsClashAt rules i j → IsClash m n
  clash_of at =
      let e : at.one ≡ m = same_some (sym at.one_at ∙ rule_at rules i m i_in m_is) in
      let f : at.other ≡ n = same_some (sym at.other_at ∙ rule_at rules j n j_in n_is) in
      subst (λ x. IsClash x n) e (subst (λ x. IsClash at.one x) f at.clash)

  -- one rule more that doesn't clash
  pub free_more : ¬ IsClash m n → IsFreeUpTo rules i j → IsFreeUpTo rules i (j + 1)
  free_more apart free l above below at =
      elim (cases_lt l j) [
        | inl less ↦ free l above less at
        | inr more ↦ (let e : l ≡ j = omega arith in apart (clash_of (subst (λ (k : ℕ). IsClashAt rules i k) e at)))
      ]

-- no rule is left
pub free_end : (rules : List Rule) (i j : ℕ) → length rules ≤ j → IsFreeUpTo rules i j → IsFree rules i
free_end rules i j end free l above at =
    let within = past_end rules l at.other at.other_at in
    free l above (omega arith) at

-- where a member stands
place_of : (rules : List Rule) (r : Rule) → IsIn r rules → (k : ℕ) × (slice_get rules k ≡ Some r)
place_of [] r i = absurd i
place_of (q ∷ rules) r (inl e) = (zero, ap Some (sym e))
place_of (q ∷ rules) r (inr i) = let (k, at) = place_of rules r i in (suc k, at)

key_in : (rules : List Rule) (r : Rule) → IsIn r rules → IsIn r.key (keys_of rules)
key_in [] r i = absurd i
key_in (q ∷ rules) r (inl e) = inl (ap (λ x. x.key) e)
key_in (q ∷ rules) r (inr i) = inr (key_in rules r i)

cases_order : (k l : ℕ) → (k ≡ l) ⊎ ((k < l) ⊎ (l < k))
cases_order k l = elim (cases_lt k l) [
  | inl less ↦ inr (inl less)
  | inr more ↦ elim (cases_lt l k) [ inl under ↦ inr (inr under) | inr over ↦ inl (omega arith) ]
]

-- where no two positions clash the table is clear
pub clear_from_free : (rules : List Rule) → ((i : ℕ) → IsFree rules i) → IsClear rules
clear_from_free rules free h a b i j first second priority =
    let (k, p) = place_of rules a i in
    let (l, q) = place_of rules b j in
    elim (cases_order k l) [
      | inl e ↦ same_some (sym p ∙ ap (slice_get rules) e ∙ q)
      | inr apart ↦ elim apart [
        | inl less ↦ absurd (free k l less (record { one = a; other = b; one_at = p; other_at = q; clash = record { priority = priority; header = h; first = first; second = second } }))
        | inr more ↦ absurd (free l k more (record { one = b; other = a; one_at = q; other_at = p; clash = record { priority = sym priority; header = h; first = second; second = first } }))
      ]
    ]

-- no rule of a table stands at two positions
stands_once : (rules : List Rule) (i j : ℕ) (r : Rule) → IsTable rules → i < j → slice_get rules i ≡ Some r → slice_get rules j ≡ Some r → ⊥
stands_once [] i j r table less e f = let g : None ≡ Some r = e in cc
stands_once (q ∷ rules) i zero r table less e f = omega arith
stands_once (q ∷ rules) zero (suc j) r table less e f =
    table.0 (subst (λ x. IsIn x (keys_of rules)) (ap (λ x. x.key) (sym (same_some e))) (key_in rules r (in_from_get rules j r f)))
stands_once (q ∷ rules) (suc i) (suc j) r table less e f = stands_once rules i j r table.1 (omega arith) e f

-- a table in which two positions clash isn't clear
pub clash_not_clear : (rules : List Rule) (i j : ℕ) → IsTable rules → i < j → IsClashAt rules i j → ¬ IsClear rules
clash_not_clear rules i j table less at clear =
    let c = at.clash in
    let e : at.one ≡ at.other = clear c.header at.one at.other (in_from_get rules i at.one at.one_at) (in_from_get rules j at.other at.other_at) c.first c.second c.priority in
    stands_once rules i j at.one table less at.one_at (subst (λ x. slice_get rules j ≡ Some x) (sym e) at.other_at)

-- where the search finds no two, and only there, the table is clear
pub none_is_clear : (rules : List Rule) (found : Option (ℕ × ℕ)) → IsTable rules → MatchOption found ((i : ℕ) → IsFree rules i) (λ p. IsLeastClash rules p.0 p.1) → IsNone found ↔ IsClear rules
none_is_clear rules None table free = (λ _. clear_from_free rules free, λ _. refl)
none_is_clear rules (Some (i, j)) table least = (λ h. absurd (false≢true (sym h)), λ clear. absurd (clash_not_clear rules i j table least.ordered least.clash clear))
