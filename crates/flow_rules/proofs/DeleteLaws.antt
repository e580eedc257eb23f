-- Rules in key order, searched by a key.
use Rattle.std.proofs.Common.{◌≡◌, ℕ, true, false, cond, not, List, [], ◌∷◌, length, get_or, filter, inl, inr, refl, sym, ◌∙◌, ap, subst, ◌⊎◌, arith}
use Rattle.std.specs.Prelude.{◌==◌, nat_lt, Bool, Result, Ok, Err, is_ok, IsPermutation}
use Rattle.std.specs.Cmp.{tied_itself}
use Rattle.std.specs.List.{list_any}
use Rattle.std.specs.List.Sorted.{IsBinarySearchResult, IsSearchInRange}
use Rattle.std.specs.Ordering.{nat_cmp}
use Rattle.std.specs.declared.cmp.Ordering.{Ordering}
use Rattle.std.specs.declared.cmp.Ordering.TheVariants.{Less, Equal, Greater}
use Rattle.std.proofs.lemmas.Bool.{eqb-true, false_from_ne_true, cases_lt}
use Rattle.std.proofs.lemmas.List.Folds.{list_any_at, list_any_none}
use Rattle.std.proofs.lemmas.List.Sorted.{searchable_from_sorted, list_any-IsPermutation}
use Rattle.flow_rules.specs.Order.{by_parts, key_cmp, AreByKey}
use Rattle.flow_rules.specs.Patterns.{key_eq}
use Rattle.flow_rules.specs.declared.rules.Key.{Key}
use Rattle.flow_rules.specs.declared.rules.Rule.{Rule}
use Rattle.flow_rules.proofs.KeyLaws.{key_eq-true, key_eq-refl, port_told, vlan_told, key_same}
use Rattle.flow_rules.proofs.OrderLaws.{key_total}

-- numbers that tie are one
nat_tie : (x y : ℕ) → nat_cmp x y ≡ Equal → x ≡ y
nat_tie x y =
    elim (nat_lt x y) as (λ b. cond b Less (cond (x == y) Equal Greater) ≡ Equal → x ≡ y) [
      | true ↦ λ e. absurd (let f : Less ≡ Equal = e in cc)
      | false ↦ elim (x == y) as (λ b. (x == y) ≡ b → cond b Equal Greater ≡ Equal → x ≡ y) [
        | true ↦ λ same _. eqb-true x y same
        | false ↦ λ _ e. absurd (let f : Greater ≡ Equal = e in cc)
      ] refl
    ]

-- where all parts tie, each does
tie_first : (o : Ordering) (rest : List Ordering) → by_parts (o ∷ rest) ≡ Equal → (o ≡ Equal) × (by_parts rest ≡ Equal)
tie_first Less rest e = absurd (let f : Less ≡ Equal = e in cc)
tie_first Greater rest e = absurd (let f : Greater ≡ Equal = e in cc)
tie_first Equal rest e = (refl, e)

-- no two keys tie
pub key_tie : (a b : Key) → key_cmp a b ≡ Equal → a ≡ b
key_tie a b e =
    let (priority, e1) = tie_first _ _ e in
    let (port, e2) = tie_first _ _ e1 in
    let (vlan, e3) = tie_first _ _ e2 in
    let (base, e4) = tie_first _ _ e3 in
    let (len, _) = tie_first _ _ e4 in
    key_same a b (sym (nat_tie b.priority a.priority priority)) (port_told a.pattern.in_port b.pattern.in_port (nat_tie _ _ port))
    (vlan_told a.pattern.vlan b.pattern.vlan (nat_tie _ _ vlan)) (nat_tie a.pattern.dst.base b.pattern.dst.base base) (nat_tie a.pattern.dst.len b.pattern.dst.len len)

-- a search tells whether one of the rules has the key
pub search_tells : (rules : List Rule) (k : Key) (r : Result ℕ ℕ) → AreByKey rules → IsSearchInRange r (length rules)
    → IsBinarySearchResult (λ q. key_cmp q.key k) rules r → is_ok r ≡ list_any (λ q. key_eq q.key k) rules
search_tells [] k (Ok i) sorted within found = absurd (omega arith)
search_tells (q ∷ rules) k (Ok i) sorted within found =
    sym (list_any_at (λ x. key_eq x.key k) (q ∷ rules) i q within
    (subst (λ (y : Key). key_eq y k ≡ true) (sym (key_tie _ k (found q))) (key_eq-refl k)))
search_tells rules k (Err i) sorted within found =
    let split = found (searchable_from_sorted key_total (λ (q : Rule). q.key) rules k sorted) in
    sym (list_any_none (λ q. key_eq q.key k) rules (λ j d less.
    false_from_ne_true _ (λ same. never (key_cmp (get_or rules j d).key k) (tied _ same)
    (elim (cases_lt j i) [ inl below ↦ inl (split.0 j d (omega arith) below) | inr above ↦ inr (split.1 j d above less) ]))))
  where
    tied : (a : Key) → key_eq a k ≡ true → key_cmp a k ≡ Equal
    tied a same = subst (λ (y : Key). key_cmp a y ≡ Equal) (key_eq-true a k same) (tied_itself key_total a)

    never : (o : Ordering) → o ≡ Equal → (o ≡ Less) ⊎ (o ≡ Greater) → ⊥
    never o e (inl f) = let g : Equal ≡ Less = sym e ∙ f in cc
    never o e (inr f) = let g : Equal ≡ Greater = sym e ∙ f in cc

-- the order of the others doesn't matter
pub gone_same : (others sorted rules : List Rule) → IsPermutation others sorted
    → filter (λ q. not (list_any (λ r. key_eq r.key q.key) sorted)) rules ≡ filter (λ q. not (list_any (λ r. key_eq r.key q.key) others)) rules
gone_same others sorted rules same =
    sym (ap (λ (p : Rule → Bool). filter p rules) (λ i q. not (list_any-IsPermutation (λ r. key_eq r.key q.key) others sorted same i)))
