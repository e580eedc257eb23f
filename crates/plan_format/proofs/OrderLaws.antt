-- Lists that ascend, and what may follow on one.
use Rattle.std.proofs.Common.{◌≡◌, ℕ, zero, suc, ◌-◌, ◌<◌, ◌≤◌, Bool, true, List, [], ◌∷◌, length, get_or, drop, take, refl, ap, subst, arith}
use Rattle.std.specs.Prelude.{nat_lt, slice_get, Some}
use Rattle.std.specs.List.{AllByRecursion, list_all}
use Rattle.std.proofs.lemmas.Bool.{and_parts, and_from, ltb-true, lt-ltb}
use Rattle.std.proofs.lemmas.Option.{same_Some}
use Rattle.plan_format.specs.Evidence.{ascends, follows, all_below}

module _ {A : Type 0} (before : A → A → Bool) where
  -- a list of at most one item ascends
  pub ascends_end : (xs : List A) (k : ℕ) → length xs ≤ suc k → ascends before (drop k xs) ≡ true
  ascends_end [] zero few = refl
  ascends_end [] (suc k) few = refl
  ascends_end (x ∷ []) zero few = refl
  ascends_end (x ∷ y ∷ xs) zero few = absurd (omega (arith, few))
  ascends_end (x ∷ xs) (suc k) few = ascends_end xs k (omega (arith, few))

  -- the last item decides what follows
  pub follows_last : (xs : List A) (x y : A) → slice_get xs (length xs - 1) ≡ Some y → follows before xs x ≡ before y x
  follows_last [] x y e = absurd cc
  follows_last (z ∷ []) x y e = ap (λ w. before w x) (same_Some _ _ e)
  follows_last (z ∷ w ∷ xs) x y e =
      let here : length (z ∷ w ∷ xs) - 1 ≡ suc (length (w ∷ xs) - 1) = omega arith in
      follows_last (w ∷ xs) x y (subst (λ n. slice_get (z ∷ w ∷ xs) n ≡ Some y) here e)

-- ---- ascending numbers

-- the first is below each later one
first_below : (y : ℕ) (ys : List ℕ) (i : ℕ) → ascends nat_lt (y ∷ ys) ≡ true → i < length ys → y < get_or ys i 0
first_below y [] i up lt = absurd (omega (arith, lt))
first_below y (z ∷ zs) zero up lt = ltb-true y z (and_parts (nat_lt y z) (ascends nat_lt (z ∷ zs)) up).0
first_below y (z ∷ zs) (suc i) up lt =
    let parts = and_parts (nat_lt y z) (ascends nat_lt (z ∷ zs)) up in
    let one = ltb-true y z parts.0 in
    let more = first_below z zs i parts.1 (omega (arith, lt)) in
    omega (arith, one, more)

rest_ascends : (y : ℕ) (ys : List ℕ) → ascends nat_lt (y ∷ ys) ≡ true → ascends nat_lt ys ≡ true
rest_ascends y [] up = refl
rest_ascends y (z ∷ zs) up = (and_parts (nat_lt y z) (ascends nat_lt (z ∷ zs)) up).1

-- those before a place are below what stands there
pub earlier_below : (xs : List ℕ) (i : ℕ) → ascends nat_lt xs ≡ true → i < length xs → AllByRecursion (λ t. t < get_or xs i 0) (take i xs)
earlier_below xs zero up lt = tt
earlier_below [] (suc i) up lt = absurd (omega (arith, lt))
earlier_below (y ∷ ys) (suc i) up lt = (first_below y ys i up (omega (arith, lt)), earlier_below ys i (rest_ascends y ys up) (omega (arith, lt)))

-- numbers below a limit are below a greater one
pub below_more : (limit more : ℕ) (xs : List ℕ) → limit ≤ more → all_below limit xs ≡ true → all_below more xs ≡ true
unfolding all_below
below_more limit more [] le all = refl
below_more limit more (x ∷ xs) le all =
    let parts = and_parts (nat_lt x limit) (list_all (λ n. nat_lt n limit) xs) all in
    let one = ltb-true x limit parts.0 in
    and_from (nat_lt x more) (list_all (λ n. nat_lt n more) xs) (lt-ltb x more (omega (arith, le, one))) (below_more limit more xs le parts.1)

-- each of the numbers is below the limit
pub one_below : (limit : ℕ) (xs : List ℕ) (i : ℕ) → all_below limit xs ≡ true → i < length xs → get_or xs i 0 < limit
unfolding all_below
one_below limit [] i all lt = absurd (omega (arith, lt))
one_below limit (x ∷ xs) zero all lt = ltb-true x limit (and_parts (nat_lt x limit) (list_all (λ n. nat_lt n limit) xs) all).0
one_below limit (x ∷ xs) (suc i) all lt = one_below limit xs i (and_parts (nat_lt x limit) (list_all (λ n. nat_lt n limit) xs) all).1 (omega (arith, lt))
