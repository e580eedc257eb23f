-- What numbering a member, or members one after another, does to a list in which each stands once.
use Rattle.std.proofs.Common.{◌≡◌, ◌⊎◌, ℕ, suc, ◌<◌, List, [], ◌∷◌, ◌++◌, length, Some, refl, sym, ap, subst, inl, inr, arith, length-append}
use Rattle.std.specs.Prelude.{slice_get}
use Rattle.std.specs.List.{AllByRecursion, AllZip}
use Rattle.std.proofs.lemmas.Option.{slice_get_within}
use Rattle.net_base.specs.Members.{IsIn, IsDistinct, IsPrefix}
use Rattle.net_base.proofs.MemberLaws.{in_append_cases}
use Rattle.evidence_store.specs.Stored.{UsesInOrder}
use Rattle.evidence_store.specs.Numbers.{IsNumbered, AreNumbered}
use Rattle.evidence_store.proofs.ListLaws.{prefix_of_append, prefix_at, last_at}
use Rattle.net_base.proofs.ItemLaws.{distinct_push, prefix_refl, prefix_through}

-- uses in order, and then more of them
pub in_order_append : (next : ℕ) (is js : List ℕ) (mid last : ℕ) → UsesInOrder next is mid → UsesInOrder mid js last → UsesInOrder next (is ++ js) last
in_order_append next [] js mid last h k = subst (λ n. UsesInOrder n js last) (sym h) k
in_order_append next (i ∷ is) js mid last (inl h) k = inl (h.0, in_order_append next is js mid last h.1 k)
in_order_append next (i ∷ is) js mid last (inr h) k = inr (h.0, in_order_append (suc next) is js mid last h.1 k)

module _ {A : Type 0} where
  -- ---- one member

  pub numbered_prefix : (old : List A) (x : A) (n : ℕ) (new : List A) → IsNumbered old x n new → IsPrefix old new
  numbered_prefix old x n new (inl found) = subst (IsPrefix old) (sym found.1) (prefix_refl old)
  numbered_prefix old x n new (inr added) = subst (IsPrefix old) (sym added.1) (prefix_of_append old (x ∷ []))

  pub numbered_at : (old : List A) (x : A) (n : ℕ) (new : List A) → IsNumbered old x n new → slice_get new n ≡ Some x
  numbered_at old x n new (inl found) = subst (λ (l : List A). slice_get l n ≡ Some x) (sym found.1) found.0
  numbered_at old x n new (inr added) =
      subst (λ (l : List A). slice_get l n ≡ Some x) (sym added.1) (subst (λ m. slice_get (old ++ x ∷ []) m ≡ Some x) (sym added.0) (last_at old x))

  pub numbered_distinct : (old : List A) (x : A) (n : ℕ) (new : List A) → IsNumbered old x n new → IsDistinct old → IsDistinct new
  numbered_distinct old x n new (inl found) once = subst IsDistinct (sym found.1) once
  numbered_distinct old x n new (inr added) once = subst IsDistinct (sym added.1) (distinct_push old x once added.2)

  pub numbered_only : (old : List A) (x : A) (n : ℕ) (new : List A) → IsNumbered old x n new → (y : A) → IsIn y new → IsIn y old ⊎ (y ≡ x)
  numbered_only old x n new (inl found) y i = inl (subst (IsIn y) found.1 i)
  numbered_only old x n new (inr added) y i =
      elim (in_append_cases y old (x ∷ []) (subst (IsIn y) added.1 i)) [
        | inl j ↦ inl j
        | inr j ↦ elim j [ inl e ↦ inr e | inr none ↦ absurd none ]
      ]

  pub numbered_in_order : (old : List A) (x : A) (n : ℕ) (new : List A) → IsNumbered old x n new → UsesInOrder (length old) (n ∷ []) (length new)
  numbered_in_order old x n new (inl found) = inl (slice_get_within old n x found.0, ap length (sym found.1))
  numbered_in_order old x n new (inr added) = inr (added.0, let e = ap length added.1 in omega (arith, e, length-append old (x ∷ [])))

  -- a number that there was is that of a member that stood there
  pub numbered_old : (old : List A) (x : A) (n : ℕ) (new : List A) → n < length old → IsNumbered old x n new → new ≡ old
  numbered_old old x n new within (inl found) = found.1
  numbered_old old x n new within (inr added) = let e = added.0 in absurd (omega arith)

  -- ---- members one after another

  pub are_numbered_more : (old mid new xs : List A) (ns : List ℕ) (x : A) (n : ℕ) → AreNumbered old xs ns mid → IsNumbered mid x n new → AreNumbered old (xs ++ x ∷ []) (ns ++ n ∷ []) new
  are_numbered_more old mid new [] [] x n h k = (new, subst (λ (l : List A). IsNumbered l x n new) h k, refl)
  are_numbered_more old mid new [] (m ∷ ns) x n h k = absurd h
  are_numbered_more old mid new (y ∷ xs) [] x n h k = absurd h
  are_numbered_more old mid new (y ∷ xs) (m ∷ ns) x n h k = (h.0, h.1, are_numbered_more h.0 mid new xs ns x n h.2 k)

  pub all_prefix : (old xs : List A) (ns : List ℕ) (new : List A) → AreNumbered old xs ns new → IsPrefix old new
  all_prefix old [] [] new h = subst (IsPrefix old) (sym h) (prefix_refl old)
  all_prefix old [] (n ∷ ns) new h = absurd h
  all_prefix old (x ∷ xs) [] new h = absurd h
  all_prefix old (x ∷ xs) (n ∷ ns) new h = prefix_through old h.0 new (numbered_prefix old x n h.0 h.1) (all_prefix h.0 xs ns new h.2)

  pub all_at : (old xs : List A) (ns : List ℕ) (new : List A) → AreNumbered old xs ns new → AllZip (λ n x. slice_get new n ≡ Some x) ns xs
  all_at old [] [] new h = tt
  all_at old [] (n ∷ ns) new h = absurd h
  all_at old (x ∷ xs) [] new h = absurd h
  all_at old (x ∷ xs) (n ∷ ns) new h =
      (prefix_at h.0 new n x (all_prefix h.0 xs ns new h.2) (numbered_at old x n h.0 h.1), all_at h.0 xs ns new h.2)

  pub all_distinct : (old xs : List A) (ns : List ℕ) (new : List A) → AreNumbered old xs ns new → IsDistinct old → IsDistinct new
  all_distinct old [] [] new h once = subst IsDistinct (sym h) once
  all_distinct old [] (n ∷ ns) new h once = absurd h
  all_distinct old (x ∷ xs) [] new h once = absurd h
  all_distinct old (x ∷ xs) (n ∷ ns) new h once = all_distinct h.0 xs ns new h.2 (numbered_distinct old x n h.0 h.1 once)

  pub all_only : (old xs : List A) (ns : List ℕ) (new : List A) → AreNumbered old xs ns new → (y : A) → IsIn y new → IsIn y old ⊎ IsIn y xs
  all_only old [] [] new h y i = inl (subst (IsIn y) h i)
  all_only old [] (n ∷ ns) new h y i = absurd h
  all_only old (x ∷ xs) [] new h y i = absurd h
  all_only old (x ∷ xs) (n ∷ ns) new h y i =
      elim (all_only h.0 xs ns new h.2 y i) [
        | inl j ↦ elim (numbered_only old x n h.0 h.1 y j) [ inl k ↦ inl k | inr e ↦ inr (inl e) ]
        | inr j ↦ inr (inr j)
      ]

  pub all_in_order : (old xs : List A) (ns : List ℕ) (new : List A) → AreNumbered old xs ns new → UsesInOrder (length old) ns (length new)
  all_in_order old [] [] new h = ap length (sym h)
  all_in_order old [] (n ∷ ns) new h = absurd h
  all_in_order old (x ∷ xs) [] new h = absurd h
  all_in_order old (x ∷ xs) (n ∷ ns) new h =
      in_order_append (length old) (n ∷ []) ns (length h.0) (length new) (numbered_in_order old x n h.0 h.1) (all_in_order h.0 xs ns new h.2)

  pub all_within : (old xs : List A) (ns : List ℕ) (new : List A) → AreNumbered old xs ns new → AllByRecursion (λ n. n < length new) ns
  all_within old xs ns new h = within xs ns (all_at old xs ns new h)
    where
      within : (xs : List A) (ns : List ℕ) → AllZip (λ n x. slice_get new n ≡ Some x) ns xs → AllByRecursion (λ n. n < length new) ns
      within [] [] h = tt
      within (x ∷ xs) [] h = tt
      within [] (n ∷ ns) h = absurd h
      within (x ∷ xs) (n ∷ ns) h = (slice_get_within new n x h.0, within xs ns h.1)

  -- numbers that there were are those of members that stood there
  pub all_old : (old xs : List A) (ns : List ℕ) (new : List A) → AllByRecursion (λ n. n < length old) ns → AreNumbered old xs ns new → new ≡ old
  all_old old [] [] new within h = h
  all_old old [] (n ∷ ns) new within h = absurd h
  all_old old (x ∷ xs) [] new within h = absurd h
  all_old old (x ∷ xs) (n ∷ ns) new within h =
      let same : h.0 ≡ old = numbered_old old x n h.0 within.0 h.1 in
      all_old old xs ns new within.1 (subst (λ (l : List A). AreNumbered l xs ns new) same h.2)
