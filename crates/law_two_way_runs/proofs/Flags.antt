-- Flags that are set and set back, and flags turned round.
use Rattle.std.proofs.Common.{◌≡◌, ℕ, zero, suc, Bool, true, false, not, List, [], ◌∷◌, length, map, replicate, set, refl, sym, ◌∙◌, ap}
use Rattle.std.specs.Prelude.{slice_get, Some, None}
use Rattle.std.specs.List.{AllByRecursion}

module _ {A : Type 0} where
  -- an item that is changed and changed back
  pub set_back : (xs : List A) (i : ℕ) (x y : A) → slice_get xs i ≡ Some x → set (set xs i y) i x ≡ xs
  set_back [] i x y e = refl
  set_back (z ∷ xs) zero x y e = let f : z ≡ x = cc in ap (λ w. w ∷ xs) (sym f)
  set_back (z ∷ xs) (suc i) x y e = ap (λ ws. z ∷ ws) (set_back xs i x y e)

  -- what stands where an item is changed
  pub get_set : (xs : List A) (i : ℕ) (x y : A) → slice_get xs i ≡ Some x → slice_get (set xs i y) i ≡ Some y
  get_set [] i x y e = absurd (let f : None ≡ Some x = e in cc)
  get_set (z ∷ xs) zero x y e = refl
  get_set (z ∷ xs) (suc i) x y e = get_set xs i x y e

-- flags turned round
pub turned_set : (flags : List Bool) (i : ℕ) (b : Bool) → map not (set flags i b) ≡ set (map not flags) i (not b)
turned_set [] i b = refl
turned_set (x ∷ flags) zero b = refl
turned_set (x ∷ flags) (suc i) b = ap (λ xs. not x ∷ xs) (turned_set flags i b)

pub turned_get : (flags : List Bool) (i : ℕ) (b : Bool) → slice_get flags i ≡ Some b → slice_get (map not flags) i ≡ Some (not b)
turned_get [] i b e = absurd (let f : None ≡ Some b = e in cc)
turned_get (x ∷ flags) zero b e = let f : x ≡ b = cc in ap (λ y. Some (not y)) f
turned_get (x ∷ flags) (suc i) b e = turned_get flags i b e

pub got_turned : (flags : List Bool) (i : ℕ) → slice_get (map not flags) i ≡ Some true → slice_get flags i ≡ Some false
got_turned [] i e = absurd (let f : None ≡ Some true = e in cc)
got_turned (true ∷ flags) zero e = absurd (let f : false ≡ true = cc in cc)
got_turned (false ∷ flags) zero e = refl
got_turned (x ∷ flags) (suc i) e = got_turned flags i e

pub turned_replicate : (n : ℕ) (b : Bool) → map not (replicate n b) ≡ replicate n (not b)
turned_replicate zero b = refl
turned_replicate (suc n) b = ap (λ xs. not b ∷ xs) (turned_replicate n b)

pub turned_all : (flags : List Bool) → AllByRecursion (λ b. b ≡ true) flags → AllByRecursion (λ b. b ≡ false) (map not flags)
turned_all [] all = tt
turned_all (b ∷ flags) all = (ap not all.0, turned_all flags all.1)

pub all_turned : (flags : List Bool) → AllByRecursion (λ b. b ≡ false) (map not flags) → AllByRecursion (λ b. b ≡ true) flags
all_turned [] all = tt
all_turned (true ∷ flags) all = (refl, all_turned flags all.1)
all_turned (false ∷ flags) all = absurd (let f : true ≡ false = all.0 in cc)

pub turned_none : (flags : List Bool) → AllByRecursion (λ b. b ≡ false) flags → AllByRecursion (λ b. b ≡ true) (map not flags)
turned_none [] all = tt
turned_none (b ∷ flags) all = (ap not all.0, turned_none flags all.1)

-- of flags that are all on, no change is made; where they are off, each is
pub all_on : (flags : List Bool) → AllByRecursion (λ b. b ≡ true) flags → flags ≡ replicate (length flags) true
all_on [] all = refl
all_on (b ∷ flags) all = ap (λ x. x ∷ flags) all.0 ∙ ap (λ xs. true ∷ xs) (all_on flags all.1)

pub replicate_off : (n : ℕ) → AllByRecursion (λ b. b ≡ false) (replicate n false)
replicate_off zero = tt
replicate_off (suc n) = (refl, replicate_off n)
