-- Items read one after the other, as a loop does, which are numbered from any number on.
use Rattle.std.proofs.Common.{◌≡◌, ℕ, suc, ◌+◌, ◌<◌, ◌≤◌, List, ◌∷◌, length, get_or, drop, Result, Ok, Err, refl, sym, ap, ◌∙◌, zero-add, add-one}
use Rattle.std.proofs.lemmas.List.{drop_more, drop_all}
use Rattle.std.proofs.lemmas.List.FromFn.{length-enumerate_from, get_or-enumerate_from}
use Rattle.std.specs.List.{enumerate_from}
use Rattle.net_base.specs.Reading.{in_turn, place_of, Fails}

-- the item of a turn, by its number
pub numbered_turn : {A : Type 0} (xs : List A) (n i : ℕ) (x : A) → n < length (enumerate_from 0 xs) → (i, x) ≡ get_or (enumerate_from 0 xs) n (i, x) → (n < length xs) × (i ≡ n) × (x ≡ get_or xs n x)
numbered_turn {A} xs n i x lt at =
    let less : n < length xs = rw length-enumerate_from at lt in
    let same : (i, x) ≡ (0 + n, get_or xs n x) = at ∙ get_or-enumerate_from 0 xs n (i, x) less in
    (less, ap (λ (p : ℕ × A). p.0) same ∙ zero-add n, ap (λ (p : ℕ × A). p.1) same)

module _ {A S E : Type 0} (step : ℕ → S → A → Result S E) (xs : List A) (i n : ℕ) (s : S) (x d : A) (total : Result S E) (lt : i < length xs) (at : get_or xs i d ≡ x) where
  split : drop i xs ≡ x ∷ drop (i + 1) xs
  split = drop_more xs i d lt ∙ ap (λ (y : A). y ∷ drop (i + 1) xs) at

  pub goes_on : (place next : ℕ) (t : S) → place ≡ place_of n → next ≡ n + 1 → step place s x ≡ Ok t → in_turn step n s (drop i xs) ≡ total → in_turn step next t (drop (i + 1) xs) ≡ total
  unfolding in_turn
  goes_on place next t here is h so_far =
      let made : step (place_of n) s x ≡ Ok t = ap (λ (k : ℕ). step k s x) (sym here) ∙ h in
      let one : in_turn step n s (drop i xs) ≡ in_turn step (suc n) t (drop (i + 1) xs) = rw (split, made) refl in
      rw (is, add-one n) (sym one ∙ so_far)

  pub ends : (place : ℕ) (memory e : E) → place ≡ place_of n → Fails memory e (step place s x) → in_turn step n s (drop i xs) ≡ total → Fails memory e total
  unfolding in_turn
  ends place memory e here h so_far = λ no.
      let made : step (place_of n) s x ≡ Err e = ap (λ (k : ℕ). step k s x) (sym here) ∙ h no in
      let one : in_turn step n s (drop i xs) ≡ Err e = rw (split, made) refl in
      sym so_far ∙ one

pub is_done : {A S E : Type 0} (step : ℕ → S → A → Result S E) (xs : List A) (i n : ℕ) (s : S) (total : Result S E) → length xs ≤ i → in_turn step n s (drop i xs) ≡ total → total ≡ Ok s
unfolding in_turn
is_done step xs i n s total past so_far =
    let one : in_turn step n s (drop i xs) ≡ Ok s = rw (drop_all i xs past) refl in
    sym so_far ∙ one
