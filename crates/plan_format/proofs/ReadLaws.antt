-- Readings that did not fail.
use Rattle.std.proofs.Common.{◌≡◌, ℕ, zero, suc, ◌+◌, Bool, true, false, List, [], ◌∷◌, ◌++◌, length, Option, Some, None, Result, Ok, Err, refl, ap, subst, arith}
use Rattle.std.specs.Prelude.{slice_get, ⊤}
use Rattle.std.specs.List.{AllByRecursion}
use Rattle.std.proofs.lemmas.Option.{same_Some}
use Rattle.net_base.specs.Reading.{◌>>=◌, check, need, in_turn, place_of}
use Rattle.net_base.proofs.Turns.{ok_is}
use Rattle.plan_format.specs.declared.fault.PlanFault.{PlanFault}

abbrev pub Read : Type 0 → Type 0
Read A = Result A PlanFault

-- the value of a step that did not fail
pub step : {A B P : Type 0} (r : Read A) (f : A → Read B) (y : B) → (r >>= f) ≡ Ok y → ((x : A) → r ≡ Ok x → f x ≡ Ok y → P) → P
step (Ok x) f y e k = k x refl e
step (Err d) f y e k = absurd cc

pub needed : {A : Type 0} (o : Option A) (d : PlanFault) (x : A) → need o d ≡ Ok x → o ≡ Some x
needed None d x e = absurd cc
needed (Some y) d x e = cc

pub checked : (b : Bool) (d : PlanFault) (x : ⊤) → check b d ≡ Ok x → b ≡ true
checked true d x e = refl
checked false d x e = absurd cc

pub each_push : {A : Type 0} (P : A → Type 0) (xs : List A) (x : A) → AllByRecursion P xs → P x → AllByRecursion P (xs ++ x ∷ [])
each_push P [] x all p = (p, tt)
each_push P (y ∷ ys) x all p = (all.0, each_push P ys x all.1 p)

pub each_got : {A : Type 0} (P : A → Type 0) (xs : List A) (n : ℕ) (x : A) → AllByRecursion P xs → slice_get xs n ≡ Some x → P x
each_got P [] n x all e = absurd cc
each_got P (y ∷ ys) zero x all e = subst P (same_Some _ _ e) all.0
each_got P (y ∷ ys) (suc n) x all e = each_got P ys n x all.1 e

pub length_push : {A : Type 0} (xs : List A) (x : A) → length (xs ++ x ∷ []) ≡ length xs + 1
length_push [] x = refl
length_push (y ∷ xs) x = let rest = length_push xs x in omega (arith, rest)

-- where each step makes the list longer by one, there is one for each item
pub one_for_each : {S D : Type 0} (made : ℕ → List S → D → Read (List S)) → ((n : ℕ) (s t : List S) (d : D) → made n s d ≡ Ok t → length t ≡ length s + 1)
    → (n : ℕ) (s t : List S) (ds : List D) → in_turn made n s ds ≡ Ok t → length t ≡ length s + length ds
unfolding in_turn
one_for_each made one n s t [] e = omega (arith, ap length (ok_is {E = PlanFault} s t e))
one_for_each made one n s t (d ∷ ds) e =
    step (made (place_of n) s d) (λ u. in_turn made (suc n) u ds) t e (λ u h e1.
    let first = one (place_of n) s u d h in
    let rest = one_for_each made one (suc n) u t ds e1 in
    omega (arith, first, rest))
