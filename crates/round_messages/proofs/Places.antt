-- Places of lists: one is set, or all before it are dropped.
use Rattle.std.proofs.Common.{◌≡◌, ◌≢◌, ℕ, zero, suc, ◌≤◌, List, [], ◌∷◌, drop, set, refl, ap, arith}
use Rattle.std.specs.Prelude.{slice_get, Some, None}

pub get_set_same : {A : Type 0} (xs : List A) (i : ℕ) (x y : A) → slice_get xs i ≡ Some x → slice_get (set xs i y) i ≡ Some y
get_set_same [] i x y e = absurd (let f : None ≡ Some x = e in cc)
get_set_same (a ∷ xs) zero x y e = refl
get_set_same (a ∷ xs) (suc i) x y e = get_set_same xs i x y e

pub get_set_other : {A : Type 0} (xs : List A) (i j : ℕ) (y : A) → j ≢ i → slice_get (set xs i y) j ≡ slice_get xs j
get_set_other [] i j y ne = refl
get_set_other (a ∷ xs) zero zero y ne = absurd (ne refl)
get_set_other (a ∷ xs) zero (suc j) y ne = refl
get_set_other (a ∷ xs) (suc i) zero y ne = refl
get_set_other (a ∷ xs) (suc i) (suc j) y ne = get_set_other xs i j y (λ e. ne (ap suc e))

-- what stands at the front of the rest of a list
pub drop_head : {A : Type 0} (xs ys : List A) (i : ℕ) (y : A) → drop i xs ≡ y ∷ ys → (slice_get xs i ≡ Some y) × (drop (suc i) xs ≡ ys)
drop_head [] ys zero y e = absurd (let f : [] ≡ y ∷ ys = e in cc)
drop_head [] ys (suc i) y e = absurd (let f : [] ≡ y ∷ ys = e in cc)
drop_head (x ∷ xs) ys zero y e = ((let f : x ∷ xs ≡ y ∷ ys = e in let g : x ≡ y = cc in ap Some g), (let f : x ∷ xs ≡ y ∷ ys = e in cc))
drop_head (x ∷ xs) ys (suc i) y e = drop_head xs ys i y e

pub drop_none : {A : Type 0} (xs : List A) (i n : ℕ) (x : A) → drop i xs ≡ [] → i ≤ n → slice_get xs n ≡ Some x → ⊥
drop_none [] i n x e le at = let f : None ≡ Some x = at in cc
drop_none (y ∷ xs) zero n x e le at = let f : y ∷ xs ≡ [] = e in cc
drop_none (y ∷ xs) (suc i) zero x e le at = omega arith
drop_none (y ∷ xs) (suc i) (suc n) x e le at = drop_none xs i n x e (omega arith) at
