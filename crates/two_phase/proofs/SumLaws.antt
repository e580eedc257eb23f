-- Sums over lists: added, exchanged, bounded.
use Rattle.std.proofs.Common.{◌≡◌, ℕ, suc, ◌+◌, ◌*◌, ◌≤◌, Bool, true, false, cond, List, [], ◌∷◌, ◌++◌, map, length, sum_by, refl, sym, subst, ap, inl, inr, arith}
use Rattle.std.specs.Prelude.{◌==◌, filter, not, reverse}
use Rattle.std.proofs.lemmas.Bool.Decides.{eqb_tells}
use Rattle.std.proofs.lemmas.List.{reverse-append}
use Rattle.std.proofs.lemmas.List.Sums.{sum_by-cons, sum_by-append}
use Rattle.net_base.specs.Members.{IsIn, IsDistinct}

module _ {A : Type 0} where
  pub sum_none : (xs : List A) → sum_by (λ (x : A). 0) xs ≡ 0
  sum_none [] = refl
  sum_none (x ∷ xs) = let e = sum_by-cons (λ (y : A). 0) x xs in let rest = sum_none xs in omega arith

  pub sum_both : (f g : A → ℕ) (xs : List A) → sum_by (λ x. f x + g x) xs ≡ sum_by f xs + sum_by g xs
  sum_both f g [] = refl
  sum_both f g (x ∷ xs) =
      let a = sum_by-cons (λ y. f y + g y) x xs in
      let b = sum_by-cons f x xs in
      let c = sum_by-cons g x xs in
      let rest = sum_both f g xs in
      omega arith

  pub sum_less : (f g : A → ℕ) (xs : List A) → ((x : A) → IsIn x xs → f x ≤ g x) → sum_by f xs ≤ sum_by g xs
  sum_less f g [] less = omega arith
  sum_less f g (x ∷ xs) less =
      let a = sum_by-cons f x xs in
      let b = sum_by-cons g x xs in
      let here = less x (inl refl) in
      let rest = sum_less f g xs (λ y i. less y (inr i)) in
      omega arith

  pub sum_most : (f : A → ℕ) (most : ℕ) (xs : List A) → ((x : A) → IsIn x xs → f x ≤ most) → sum_by f xs ≤ length xs * most
  sum_most f most [] less = omega arith
  sum_most f most (x ∷ xs) less =
      let a = sum_by-cons f x xs in
      let here = less x (inl refl) in
      let rest = sum_most f most xs (λ y i. less y (inr i)) in
      omega arith

  pub sum_map : {B : Type 0} (f : B → ℕ) (g : A → B) (xs : List A) → sum_by f (map g xs) ≡ sum_by (λ x. f (g x)) xs
  sum_map f g [] = refl
  sum_map f g (x ∷ xs) =
      let a = sum_by-cons f (g x) (map g xs) in
      let b = sum_by-cons (λ y. f (g y)) x xs in
      let rest = sum_map f g xs in
      omega arith

  pub sum_reverse : (f : A → ℕ) (xs : List A) → sum_by f (reverse xs) ≡ sum_by f xs
  sum_reverse f [] = refl
  sum_reverse f (x ∷ xs) =
      let e : sum_by f (reverse (x ∷ xs)) ≡ sum_by f (reverse xs ++ x ∷ []) = ap (sum_by f) (reverse-append (x ∷ []) xs) in
      let a = sum_by-append f (reverse xs) (x ∷ []) in
      let b = sum_by-cons f x [] in
      let c = sum_by-cons f x xs in
      let rest = sum_reverse f xs in
      omega arith

  pub length_split : (p : A → Bool) (xs : List A) → length (filter (λ x. not (p x)) xs) + length (filter p xs) ≡ length xs
  length_split p [] = refl
  length_split p (x ∷ xs) =
      let rest = length_split p xs in
      elim (p x) as (λ b. length (cond (not b) (x ∷ filter (λ y. not (p y)) xs) (filter (λ y. not (p y)) xs)) + length (cond b (x ∷ filter p xs) (filter p xs)) ≡ suc (length xs)) [
        | true ↦ omega arith
        | false ↦ omega arith
      ]

pub sum_swap : {A B : Type 0} (f : A → B → ℕ) (xs : List A) (ys : List B) → sum_by (λ x. sum_by (f x) ys) xs ≡ sum_by (λ y. sum_by (λ x. f x y) xs) ys
sum_swap f [] ys = sym (sum_none ys)
sum_swap {B = B} f (x ∷ xs) ys =
    let a = sum_by-cons (λ z. sum_by (f z) ys) x xs in
    let rest = sum_swap f xs ys in
    let b = sum_both (f x) (λ y. sum_by (λ z. f z y) xs) ys in
    let c : sum_by (λ y. sum_by (λ z. f z y) (x ∷ xs)) ys ≡ sum_by (λ y. f x y + sum_by (λ z. f z y) xs) ys = ap (λ (g : B → ℕ). sum_by g ys) (λ j y. sum_by-cons (λ z. f z y) x xs j) in
    omega arith

abbrev one : Bool → ℕ
one b = cond b 1 0

-- a number is at most once among distinct ones
none_there : (n : ℕ) (ks : List ℕ) → ¬ IsIn n ks → sum_by (λ k. cond (n == k) 1 0) ks ≡ 0
none_there n [] none = refl
none_there n (k ∷ ks) none =
    let e = sum_by-cons (λ m. cond (n == m) 1 0) k ks in
    let rest = none_there n ks (λ i. none (inr i)) in
    elim (eqb_tells n k) [
      | inl h ↦ absurd (none (inl h.1))
      | inr h ↦ (let f : one (n == k) ≡ 0 = ap one h.0 in omega arith)
    ]

once_there : (n : ℕ) (ks : List ℕ) → IsDistinct ks → sum_by (λ k. cond (n == k) 1 0) ks ≤ 1
once_there n [] distinct = omega arith
once_there n (k ∷ ks) distinct =
    let e = sum_by-cons (λ m. cond (n == m) 1 0) k ks in
    elim (eqb_tells n k) [
      | inl h ↦ (let f : one (n == k) ≡ 1 = ap one h.0 in let rest = none_there n ks (λ i. distinct.0 (subst (λ m. IsIn m ks) h.1 i)) in omega arith)
      | inr h ↦ (let f : one (n == k) ≡ 0 = ap one h.0 in let rest = once_there n ks distinct.1 in omega arith)
    ]

-- the members of each number, taken together, are no more than all
pub parts_most : {A : Type 0} (number : A → ℕ) (ks : List ℕ) → IsDistinct ks → (xs : List A) → sum_by (λ k. length (filter (λ x. number x == k) xs)) ks ≤ length xs
parts_most number ks distinct [] = let e = sum_none ks in omega arith
parts_most number ks distinct (x ∷ xs) =
    let one : (k : ℕ) → length (filter (λ y. number y == k) (x ∷ xs)) ≡ cond (number x == k) 1 0 + length (filter (λ y. number y == k) xs) = λ k. one_more (number x == k) x (filter (λ y. number y == k) xs) in
    let e : sum_by (λ k. length (filter (λ y. number y == k) (x ∷ xs))) ks ≡ sum_by (λ k. cond (number x == k) 1 0 + length (filter (λ y. number y == k) xs)) ks = ap (λ (f : ℕ → ℕ). sum_by f ks) (λ j k. one k j) in
    let both = sum_both (λ k. cond (number x == k) 1 0) (λ k. length (filter (λ y. number y == k) xs)) ks in
    let here = once_there (number x) ks distinct in
    let rest = parts_most number ks distinct xs in
    omega arith
  where
    one_more : {B : Type 0} (b : Bool) (x : B) (xs : List B) → length (cond b (x ∷ xs) xs) ≡ cond b 1 0 + length xs
    one_more true x xs = omega arith
    one_more false x xs = omega arith
