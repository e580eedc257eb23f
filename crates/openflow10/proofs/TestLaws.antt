-- Lists of tests, and the first that fails.
use Rattle.std.proofs.Common.{◌≡◌, Bool, true, false, cond, List, [], ◌∷◌, ◌++◌, refl}
use Rattle.std.specs.Prelude.{Option, Some, None}
use Rattle.std.specs.List.{AllByRecursion}
use Rattle.openflow10.specs.Refusals.{Test, first_failed}
use Rattle.openflow10.specs.declared.WireFault.{WireFault}

chosen_none : {X : Type 0} (b : Bool) (o : Option X) (x : X) → cond b o (Some x) ≡ None → (b ≡ true) × (o ≡ None)
chosen_none true o x e = (refl, e)
chosen_none false o x e = absurd cc

passes : (t : Test) (tests : List Test) → first_failed (t ∷ tests) ≡ None → (t.passed ≡ true) × (first_failed tests ≡ None)
passes t tests e = chosen_none t.passed (first_failed tests) t.refusal e

abbrev pub AllPass : List Test → Type 0
AllPass tests = AllByRecursion (λ t. t.passed ≡ true) tests

pub all_pass : (tests : List Test) → first_failed tests ≡ None → AllPass tests
all_pass [] e = tt
all_pass (t ∷ tests) e =
    let (here, rest) = passes t tests e in
    (here, all_pass tests rest)

pub none_fails : (tests : List Test) → AllPass tests → first_failed tests ≡ None
none_fails [] h = refl
none_fails (t ∷ tests) h = let here = h.0 in rw here (none_fails tests h.1)

pub first_failed-none : (xs ys : List Test) → first_failed xs ≡ None → first_failed (xs ++ ys) ≡ first_failed ys
first_failed-none [] ys e = refl
first_failed-none (t ∷ xs) ys e =
    let (here, rest) = passes t xs e in
    rw here (first_failed-none xs ys rest)

stops : {X : Type 0} (b : Bool) (o p : Option X) (x f : X) → (o ≡ Some f → p ≡ Some f) → cond b o (Some x) ≡ Some f → cond b p (Some x) ≡ Some f
stops true o p x f h e = h e
stops false o p x f h e = e

pub first_failed-some : (xs ys : List Test) (f : WireFault) → first_failed xs ≡ Some f → first_failed (xs ++ ys) ≡ Some f
first_failed-some [] ys f e = absurd cc
first_failed-some (t ∷ xs) ys f e = stops t.passed (first_failed xs) (first_failed (xs ++ ys)) t.refusal f (first_failed-some xs ys f) e

pub first_failed-split : (xs ys : List Test) → first_failed (xs ++ ys) ≡ None → (first_failed xs ≡ None) × (first_failed ys ≡ None)
first_failed-split [] ys e = (refl, e)
first_failed-split (t ∷ xs) ys e =
    let (here, rest) = passes t (xs ++ ys) e in
    let (mine, others) = first_failed-split xs ys rest in
    (rw here mine, others)
