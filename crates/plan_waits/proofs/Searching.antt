-- A search in ascending numbers.
use Rattle.std.proofs.Common.{◌≡◌, ◌≢◌, ℕ, zero, suc, ◌<◌, ◌≤◌, false, List, [], ◌∷◌, length, get_or, Result, Ok, Err, refl, sym, inl, inr, arith}
use Rattle.std.specs.Prelude.{◌==◌}
use Rattle.std.specs.List.{list_any}
use Rattle.std.specs.Result.{is_ok}
use Rattle.std.specs.Ordering.{nat_cmp}
use Rattle.std.specs.List.Sorted.{IsBinarySearchResult}
use Rattle.std.proofs.lemmas.Bool.{cases_lt, or_from, eq-eqb, ne_eqb}
use Rattle.std.proofs.lemmas.List.Folds.{list_any_at}
use Rattle.std.proofs.lemmas.List.Sorted.{searched}
use Rattle.certificates.specs.Valid.{IsChain}

abbrev pub Ascends : List ℕ → Type 0
Ascends xs = IsChain (λ v w. v < w) xs

rest_of : (x : ℕ) (xs : List ℕ) → Ascends (x ∷ xs) → Ascends xs
rest_of x [] h = tt
rest_of x (y ∷ ys) h = h.1

first_below : (x : ℕ) (xs : List ℕ) (j : ℕ) → Ascends (x ∷ xs) → j < length xs → x < get_or xs j 0
first_below x [] j h lt = absurd (omega (arith, lt))
first_below x (y ∷ ys) zero h lt = h.0
first_below x (y ∷ ys) (suc j) h lt =
    let one : x < y = h.0 in
    let more = first_below y ys j h.1 (omega (arith, lt)) in
    omega (arith, one, more)

rises : (xs : List ℕ) → Ascends xs → (i j : ℕ) → i ≤ j → j < length xs → get_or xs i 0 ≤ get_or xs j 0
rises [] h i j le lt = absurd (omega (arith, lt))
rises (x ∷ xs) h zero zero le lt = omega arith
rises (x ∷ xs) h zero (suc j) le lt =
    let more = first_below x xs j h (omega (arith, lt)) in
    omega (arith, more)
rises (x ∷ xs) h (suc i) zero le lt = absurd (omega (arith, le))
rises (x ∷ xs) h (suc i) (suc j) le lt = rises xs (rest_of x xs h) i j (omega (arith, le)) (omega (arith, lt))

none_is : (xs : List ℕ) (x : ℕ) → ((k : ℕ) → k < length xs → get_or xs k 0 ≢ x) → list_any (λ w. w == x) xs ≡ false
none_is [] x other = refl
none_is (y ∷ ys) x other = or_from (y == x) (list_any (λ w. w == x) ys) (ne_eqb y x (other 0 (omega arith))) (none_is ys x (λ k lt. other (suc k) (omega (arith, lt))))

-- it finds the number exactly where it is there
pub search_is : (xs : List ℕ) (x : ℕ) (r : Result ℕ ℕ) → Ascends xs → IsBinarySearchResult (λ y. nat_cmp y x) xs r → is_ok r ≡ list_any (λ w. w == x) xs
search_is xs x (Ok i) up h =
    let found = searched xs x (Ok i) h (rises xs up) in
    sym (list_any_at (λ w. w == x) xs i 0 found.0 (eq-eqb (get_or xs i 0) x found.1))
search_is xs x (Err i) up h =
    let gap = searched xs x (Err i) h (rises xs up) in
    sym (none_is xs x (λ k lt e. elim (cases_lt k i) [
      | inl before ↦ let below : get_or xs k 0 < x = gap.1 k before in omega (arith, below, e)
      | inr behind ↦ let above : x < get_or xs k 0 = gap.2 k behind lt in omega (arith, above, e)
    ]))
