-- The numbers from one on, and what is read of them in turn.
use Rattle.std.proofs.Common.{◌≡◌, ℕ, zero, suc, ◌+◌, ◌*◌, ◌<◌, ◌≤◌, Bool, false, cond, List, [], ◌∷◌, ◌++◌, length, map, Result, Ok, inl, inr, refl, sym, ap, subst, ◌∙◌, arith}
use Rattle.std.specs.Prelude.{◌==◌, flat_map, count_by}
use Rattle.std.specs.List.{range_with_len, list_any}
use Rattle.std.proofs.lemmas.Bool.{cases_eq, eq-eqb, ne_eqb, cond-true, cond-false}
use Rattle.std.proofs.lemmas.List.{append-nil, map-id}
use Rattle.std.proofs.lemmas.List.FromFn.{map-range_with_len_more}
use Rattle.std.proofs.lemmas.List.Concat.{flat_map-append}
use Rattle.std.proofs.lemmas.List.Sums.{sum_by-cons}
use Rattle.serde_json.specs.Data.{Data}
use Rattle.net_base.specs.Members.{IsIn}
use Rattle.net_base.specs.Reading.{in_turn, place_of}
use Rattle.net_base.proofs.Turns.{bind_ok, ok_is}

pub range_more : (a n j : ℕ) → a + n ≡ j → range_with_len a (n + 1) ≡ range_with_len a n ++ j ∷ []
range_more a n j e =
    sym (map-id (range_with_len a (n + 1))) ∙ map-range_with_len_more (λ (x : ℕ). x) a n j e ∙ ap (λ (l : List ℕ). l ++ j ∷ []) (map-id (range_with_len a n))

pub flat_more : {A : Type 0} (f : ℕ → List A) (k : ℕ) → flat_map f (range_with_len 0 (k + 1)) ≡ flat_map f (range_with_len 0 k) ++ f k
flat_more f k =
    ap (flat_map f) (range_more 0 k k (omega arith)) ∙ flat_map-append f (range_with_len 0 k) (k ∷ []) ∙ ap (λ l. flat_map f (range_with_len 0 k) ++ l) (append-nil (f k))

pub in_range : (a m i : ℕ) → a ≤ i → i < a + m → IsIn i (range_with_len a m)
in_range a zero i low high = absurd (omega arith)
in_range a (suc m) i low high = elim (cases_eq i a) [ inl e ↦ inl e | inr ne ↦ inr (in_range (a + 1) m i (omega arith) (omega arith)) ]

pub from_range : (a m i : ℕ) → IsIn i (range_with_len a m) → (a ≤ i) × (i < a + m)
from_range a zero i j = absurd j
from_range a (suc m) i (inl e) = (omega arith, omega arith)
from_range a (suc m) i (inr j) = let h = from_range (a + 1) m i j in (omega (arith, h.0), omega (arith, h.1))

-- ---- no more than one of them

first_counted : (f : ℕ → ℕ) (s a m : ℕ) → count_by (λ i. f i == s) (range_with_len a (suc m)) ≡ cond (f a == s) 1 0 + count_by (λ i. f i == s) (range_with_len (a + 1) m)
first_counted f s a m = sum_by-cons (λ i. cond (f i == s) 1 0) a (range_with_len (a + 1) m)

none_counted : (f : ℕ → ℕ) (s a m : ℕ) → ((i : ℕ) → a ≤ i → i < a + m → ¬ (f i ≡ s)) → count_by (λ i. f i == s) (range_with_len a m) ≡ 0
none_counted f s a zero apart = refl
none_counted f s a (suc m) apart =
    let here : (f a == s) ≡ false = ne_eqb (f a) s (apart a (omega arith) (omega arith)) in
    let rest = none_counted f s (a + 1) m (λ i low high. apart i (omega arith) (omega arith)) in
    first_counted f s a m ∙ rw (here, rest) refl

pub one_counted : (f : ℕ → ℕ) (s a m : ℕ) → ((i k : ℕ) → a ≤ i → i < k → k < a + m → ¬ (f i ≡ f k)) → count_by (λ i. f i == s) (range_with_len a m) ≤ 1
one_counted f s a zero apart = omega arith
one_counted f s a (suc m) apart =
    let step = first_counted f s a m in
    elim (cases_eq (f a) s) [
      | inl e ↦ (
          let none = none_counted f s (a + 1) m (λ i low high g. apart a i (omega arith) (omega arith) (omega arith) (e ∙ sym g)) in
          rw (step, eq-eqb (f a) s e, none) (omega arith))
      | inr ne ↦ (
          let rest = one_counted f s (a + 1) m (λ i k low less high. apart i k (omega arith) less (omega arith)) in
          rw (step, ne_eqb (f a) s ne) (omega (arith, rest)))
    ]

pub count_mapped : {A : Type 0} (p : A → Bool) (f : ℕ → A) (xs : List ℕ) → count_by p (map f xs) ≡ count_by (λ i. p (f i)) xs
count_mapped p f [] = refl
count_mapped p f (x ∷ xs) =
    sum_by-cons (λ y. cond (p y) 1 0) (f x) (map f xs) ∙ ap (λ n. cond (p (f x)) 1 0 + n) (count_mapped p f xs)
    ∙ sym (sum_by-cons (λ i. cond (p (f i)) 1 0) x xs)

pub none_mapped : {A : Type 0} (p : A → Bool) (f : ℕ → A) (a m : ℕ) → ((i : ℕ) → a ≤ i → i < a + m → p (f i) ≡ false) → list_any p (map f (range_with_len a m)) ≡ false
none_mapped p f a zero each = refl
none_mapped p f a (suc m) each = rw (each a (omega arith) (omega arith)) (none_mapped p f (a + 1) m (λ i low high. each i (omega arith) (omega arith)))

-- ---- read in turn

module _ {S E : Type 0} (step : ℕ → S → Data → Result S E) where
  -- an item for each number
  pub numbered_turns : (tree : ℕ → Data) (at : ℕ → S) (most : ℕ) → ((place k : ℕ) → k < most → step place (at k) (tree k) ≡ Ok (at (k + 1)))
      → (m k n : ℕ) → k + m ≤ most → in_turn step n (at k) (map tree (range_with_len k m)) ≡ Ok (at (k + m))
  unfolding in_turn
  numbered_turns tree at most each zero k n few = let same : k ≡ k + 0 = omega arith in subst (λ (j : ℕ). in_turn step n (at k) [] ≡ Ok (at j)) same refl
  numbered_turns tree at most each (suc m) k n few =
      let same : (k + 1) + m ≡ k + suc m = omega arith in
      rw (each (place_of n) k (omega arith))
      (subst (λ (j : ℕ). in_turn step (suc n) (at (k + 1)) (map tree (range_with_len (k + 1) m)) ≡ Ok (at j)) same (numbered_turns tree at most each m (k + 1) (suc n) (omega arith)))

  pub turns_append : (n : ℕ) (s t : S) (xs ys : List Data) (r : Result S E) → in_turn step n s xs ≡ Ok t → in_turn step (n + length xs) t ys ≡ r → in_turn step n s (xs ++ ys) ≡ r
  unfolding in_turn
  turns_append n s t [] ys r first rest =
      let same : n + 0 ≡ n = omega arith in
      subst (λ (u : S). in_turn step n u ys ≡ r) (sym (ok_is s t first)) (subst (λ (j : ℕ). in_turn step j t ys ≡ r) same rest)
  turns_append n s t (x ∷ xs) ys r first rest =
      let h = bind_ok (step (place_of n) s x) (λ u. in_turn step (suc n) u xs) t first in
      let same : n + suc (length xs) ≡ suc n + length xs = omega arith in
      rw h.1 (turns_append (suc n) h.0 t xs ys r h.2 (subst (λ (j : ℕ). in_turn step j t ys ≡ r) same rest))

  -- at most four items for each number
  pub group_turns : (group : ℕ → List Data) (at : ℕ → S) (most : ℕ) → ((k : ℕ) → length (group k) ≤ 4) → ((n k : ℕ) → k < most → n ≤ 4 * k → in_turn step n (at k) (group k) ≡ Ok (at (k + 1)))
      → (m k n : ℕ) → k + m ≤ most → n ≤ 4 * k → in_turn step n (at k) (flat_map group (range_with_len k m)) ≡ Ok (at (k + m))
  unfolding in_turn
  group_turns group at most short each zero k n few low = let same : k ≡ k + 0 = omega arith in subst (λ (j : ℕ). in_turn step n (at k) [] ≡ Ok (at j)) same refl
  group_turns group at most short each (suc m) k n few low =
      let same : (k + 1) + m ≡ k + suc m = omega arith in
      let size = short k in
      turns_append n (at k) (at (k + 1)) (group k) (flat_map group (range_with_len (k + 1) m)) (Ok (at (k + suc m))) (each n k (omega arith) low)
      (subst (λ (j : ℕ). in_turn step (n + length (group k)) (at (k + 1)) (flat_map group (range_with_len (k + 1) m)) ≡ Ok (at j)) same
      (group_turns group at most short each m (k + 1) (n + length (group k)) (omega arith) (omega arith)))
