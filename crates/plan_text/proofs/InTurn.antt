-- Lists that are read in turn as they were written.
use Rattle.std.proofs.Common.{◌≡◌, ℕ, suc, ◌+◌, ◌<◌, ◌≤◌, Bool, true, nat_lt, List, [], ◌∷◌, ◌++◌, length, map, Result, Ok, refl, sym, ap, subst, ◌∙◌, append_assoc, arith}
use Rattle.std.specs.List.{AllByRecursion, list_all}
use Rattle.std.proofs.lemmas.Bool.{and_from, lt-ltb}
use Rattle.std.proofs.lemmas.List.{append-nil}
use Rattle.serde_json.specs.Data.{Data}
use Rattle.net_base.specs.Reading.{in_turn, place_of}
use Rattle.certificates.specs.Valid.{IsChain}
use Rattle.plan_format.specs.Evidence.{ascends, follows}

-- at most so many, each valid
pub turns_again : {A E : Type 0} (step : ℕ → List A → Data → Result (List A) E) (tree : A → Data) (P : A → Type 0) (most : ℕ)
    → ((i : ℕ) (before : List A) (x : A) → i < most → P x → step (place_of i) before (tree x) ≡ Ok (before ++ x ∷ []))
    → (n : ℕ) (before xs : List A) → n + length xs ≤ most → AllByRecursion P xs → in_turn step n before (map tree xs) ≡ Ok (before ++ xs)
unfolding in_turn
turns_again step tree P most each n before [] few hs = ap (λ r. Ok r) (sym (append-nil before))
turns_again step tree P most each n before (x ∷ xs) few hs =
    rw (each n before x (omega arith) hs.0) (turns_again step tree P most each (suc n) (before ++ x ∷ []) xs (omega arith) hs.1 ∙ ap (λ r. Ok r) (append_assoc before (x ∷ []) xs))

-- each valid
pub each_again : {A E : Type 0} (step : ℕ → List A → Data → Result (List A) E) (tree : A → Data) (P : A → Type 0)
    → ((i : ℕ) (before : List A) (x : A) → P x → step (place_of i) before (tree x) ≡ Ok (before ++ x ∷ []))
    → (xs : List A) → AllByRecursion P xs → in_turn step 0 [] (map tree xs) ≡ Ok xs
each_again step tree P each xs hs = turns_again step tree P (length xs) (λ i before x lt h. each i before x h) 0 [] xs (omega arith) hs

follows_last : {A : Type 0} (R : A → A → Type 0) (test : A → A → Bool) → ((x y : A) → R x y → test x y ≡ true)
    → (before : List A) (x : A) (rest : List A) → IsChain R (before ++ x ∷ rest) → follows test before x ≡ true
follows_last R test says [] x rest c = refl
follows_last R test says (y ∷ []) x rest c = says y x c.0
follows_last R test says (y ∷ z ∷ more) x rest c = follows_last R test says (z ∷ more) x rest c.1

-- each valid, and each after the one before
pub chain_again : {A E : Type 0} (step : ℕ → List A → Data → Result (List A) E) (tree : A → Data) (P : A → Type 0) (R : A → A → Type 0) (test : A → A → Bool)
    → ((x y : A) → R x y → test x y ≡ true)
    → ((i : ℕ) (before : List A) (x : A) → P x → follows test before x ≡ true → step (place_of i) before (tree x) ≡ Ok (before ++ x ∷ []))
    → (n : ℕ) (before xs : List A) → AllByRecursion P xs → IsChain R (before ++ xs) → in_turn step n before (map tree xs) ≡ Ok (before ++ xs)
unfolding in_turn
chain_again step tree P R test says each n before [] hs c = ap (λ r. Ok r) (sym (append-nil before))
chain_again step tree P R test says each n before (x ∷ xs) hs c =
    rw (each n before x hs.0 (follows_last R test says before x xs c))
    (chain_again step tree P R test says each (suc n) (before ++ x ∷ []) xs hs.1 (subst (IsChain R) (sym (append_assoc before (x ∷ []) xs)) c)
    ∙ ap (λ r. Ok r) (append_assoc before (x ∷ []) xs))

pub ascends_again : {A : Type 0} (R : A → A → Type 0) (test : A → A → Bool) → ((x y : A) → R x y → test x y ≡ true) → (xs : List A) → IsChain R xs → ascends test xs ≡ true
ascends_again R test says [] c = refl
ascends_again R test says (x ∷ []) c = refl
ascends_again R test says (x ∷ y ∷ rest) c = and_from _ _ (says x y c.0) (ascends_again R test says (y ∷ rest) c.1)

pub below_again : (n : ℕ) (xs : List ℕ) → AllByRecursion (λ x. x < n) xs → list_all (λ x. nat_lt x n) xs ≡ true
below_again n [] hs = refl
below_again n (x ∷ xs) hs = and_from _ _ (lt-ltb x n hs.0) (below_again n xs hs.1)
