-- A scan that keeps the best rule so far.
use Rattle.std.proofs.Common.{◌≡◌, Bool, true, false, cond, List, [], ◌∷◌, ◌++◌, refl, sym, ◌∙◌, ap, arith, inl, inr, append-nil}
use Rattle.std.specs.Prelude.{nat_lt, Option, Some, None, find}
use Rattle.std.proofs.lemmas.List.Elements.{filter-append}
use Rattle.std.proofs.lemmas.Bool.{lt-ltb, le-ltb, cases_lt, cases_Bool, cond-true, cond-false, false_from_ne_true, both_ways}
use Rattle.net_base.specs.Members.{IsIn}
use Rattle.net_base.proofs.MemberLaws.{find_passes, in_append_left, in_append_right, in_append_cases}
use Rattle.flow_rules.specs.Patterns.{Header, covers}
use Rattle.flow_rules.specs.Tables.{covering_rules, matched_rule}
use Rattle.flow_rules.specs.Scan.{better_of}
use Rattle.flow_rules.specs.declared.rules.Rule.{Rule}
use Rattle.flow_rules.proofs.LookupLaws.{is_top, top_tested, top_told, top_of}

-- the best rule of a list
abbrev best : List Rule → Option Rule
best rs = find (is_top rs) rs

find_alike : {A : Type 0} (p q : A → Bool) (xs : List A) → ((x : A) → IsIn x xs → p x ≡ q x) → find p xs ≡ find q xs
find_alike p q [] alike = refl
find_alike p q (x ∷ xs) alike = ap (λ b. cond b (Some x) (find p xs)) (alike x (inl refl)) ∙ ap (λ o. cond (q x) (Some x) o) (find_alike p q xs (λ y i. alike y (inr i)))

pub find_none : {A : Type 0} (p : A → Bool) (xs ys : List A) → ((x : A) → IsIn x xs → p x ≡ false) → find p (xs ++ ys) ≡ find p ys
find_none p [] ys none = refl
find_none p (x ∷ xs) ys none = cond-false (p x) (Some x) (find p (xs ++ ys)) (none x (inl refl)) ∙ find_none p xs ys (λ y i. none y (inr i))

find_some : {A : Type 0} (p : A → Bool) (xs ys : List A) (x : A) → find p xs ≡ Some x → find p (xs ++ ys) ≡ Some x
find_some p [] ys x e = absurd (let f : None ≡ Some x = e in cc)
find_some p (z ∷ xs) ys x e =
    elim (p z) as (λ b. cond b (Some z) (find p xs) ≡ Some x → cond b (Some z) (find p (xs ++ ys)) ≡ Some x) [ true ↦ λ f. f | false ↦ λ f. find_some p xs ys x f ] e

best-push : (rs : List Rule) (r : Rule) → best (rs ++ r ∷ []) ≡ better_of (best rs) r
best-push [] r =
    cond-true (is_top (r ∷ []) r) (Some r) None (top_tested (r ∷ []) r (λ q i. elim i [ inl e ↦ (let p = ap (λ z. z.key.priority) e in omega arith) | inr j ↦ absurd j ]))
best-push (q ∷ rs) r =
    let old = q ∷ rs in
    let all = old ++ r ∷ [] in
    let (m, i, top) = top_of q rs in
    let (b, found, j, passes) = find_passes (is_top old) m old i (top_tested old m top) in
    let most = top_told old b passes in
    elim (cases_lt b.key.priority r.key.priority) [
      | inl less ↦ (
          find_none (is_top all) old (r ∷ [])
          (λ x k. false_from_ne_true (is_top all x) (λ t. let h = most x k in let g = top_told all x t r (in_append_right r old (r ∷ []) (inl refl)) in absurd (omega arith)))
          ∙ cond-true (is_top all r) (Some r) None (top_tested all r (λ x k. elim (in_append_cases x old (r ∷ []) k) [
            | inl l ↦ (let h = most x l in omega arith)
            | inr l ↦ elim l [ inl e ↦ (let p = ap (λ z. z.key.priority) e in omega arith) | inr n ↦ absurd n ]
          ]))
          ∙ sym (cond-true (nat_lt b.key.priority r.key.priority) (Some r) (Some b) (lt-ltb b.key.priority r.key.priority less))
          ∙ ap (λ o. better_of o r) (sym found))
      | inr more ↦ (
          let alike : (x : Rule) → IsIn x old → is_top all x ≡ is_top old x =
          λ x k. elim (cases_Bool (is_top old x)) [
            | inl t ↦ top_tested all x (λ y l. elim (in_append_cases y old (r ∷ []) l) [
              | inl n ↦ top_told old x t y n
              | inr n ↦ elim n [ inl e ↦ (let p = ap (λ z. z.key.priority) e in let h = top_told old x t b j in omega arith) | inr o ↦ absurd o ]
            ]) ∙ sym t
            | inr f ↦ false_from_ne_true (is_top all x) (λ t. both_ways (is_top old x) f (top_tested old x (λ y l. top_told all x t y (in_append_left y old (r ∷ []) l)))) ∙ sym f
          ] in
          find_some (is_top all) old (r ∷ []) b (find_alike (is_top all) (is_top old) old alike ∙ found)
          ∙ sym (cond-false (nat_lt b.key.priority r.key.priority) (Some r) (Some b) (le-ltb b.key.priority r.key.priority more))
          ∙ ap (λ o. better_of o r) (sym found))
    ]

-- one more rule
pub matched-push : (h : Header) (rs : List Rule) (r : Rule) → matched_rule h (rs ++ r ∷ []) ≡ cond (covers r.key.pattern h) (better_of (matched_rule h rs) r) (matched_rule h rs)
matched-push h rs r =
    ap best (filter-append (λ x. covers x.key.pattern h) rs (r ∷ []))
    ∙ elim (covers r.key.pattern h) as (λ b. best (covering_rules h rs ++ cond b (r ∷ []) []) ≡ cond b (better_of (matched_rule h rs) r) (matched_rule h rs)) [
      | true ↦ best-push (covering_rules h rs) r
      | false ↦ ap best (append-nil (covering_rules h rs))
    ]
