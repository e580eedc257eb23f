-- Numbers that fall along a tail of switches, and still from each other switch to where they fell before.
use Rattle.std.proofs.Common.{◌≡◌, ℕ, zero, suc, ◌<◌, ◌≤◌, List, [], ◌∷◌, get_or, refl, sym, subst, ap, inl, inr, arith}
use Rattle.net_base.specs.Members.{IsIn, IsDistinct}
use Rattle.net_base.proofs.NameLaws.{same_switch}
use Rattle.net_base.specs.declared.ids.SwitchId.{SwitchId}
use Rattle.acyclic_numbering.specs.Heights.{number_of, IsLower}
use Rattle.acyclic_numbering.proofs.AlongLists.{FallsAlong, cases_switch}

-- each number one more, up to this place at least
abbrev lifted : List ℕ → ℕ → List ℕ
lifted [] zero = 1 ∷ []
lifted [] (suc n) = 1 ∷ lifted [] n
lifted (x ∷ xs) zero = suc x ∷ lifted xs zero
lifted (x ∷ xs) (suc n) = suc x ∷ lifted xs n

lifted_here : (xs : List ℕ) (n : ℕ) → 1 ≤ get_or (lifted xs n) n 0
lifted_here [] zero = omega arith
lifted_here [] (suc n) = lifted_here [] n
lifted_here (x ∷ xs) zero = omega arith
lifted_here (x ∷ xs) (suc n) = lifted_here xs n

lifted_most : (xs : List ℕ) (n m : ℕ) → get_or (lifted xs n) m 0 ≤ suc (get_or xs m 0)
lifted_most [] zero zero = omega arith
lifted_most [] zero (suc m) = omega arith
lifted_most [] (suc n) zero = omega arith
lifted_most [] (suc n) (suc m) = lifted_most [] n m
lifted_most (x ∷ xs) zero zero = omega arith
lifted_most (x ∷ xs) zero (suc m) = lifted_most xs zero m
lifted_most (x ∷ xs) (suc n) zero = omega arith
lifted_most (x ∷ xs) (suc n) (suc m) = lifted_most xs n m

lifted_least : (xs : List ℕ) (n m : ℕ) → 0 < get_or xs m 0 → get_or xs m 0 < get_or (lifted xs n) m 0
lifted_least [] n m some = absurd (omega arith)
lifted_least (x ∷ xs) zero zero some = omega arith
lifted_least (x ∷ xs) zero (suc m) some = lifted_least xs zero m some
lifted_least (x ∷ xs) (suc n) zero some = omega arith
lifted_least (x ∷ xs) (suc n) (suc m) some = lifted_least xs n m some

-- the list with 0 at a place
abbrev emptied : List ℕ → ℕ → List ℕ
emptied [] n = []
emptied (x ∷ xs) zero = 0 ∷ xs
emptied (x ∷ xs) (suc n) = x ∷ emptied xs n

emptied_same : (xs : List ℕ) (n : ℕ) → get_or (emptied xs n) n 0 ≡ 0
emptied_same [] n = refl
emptied_same (x ∷ xs) zero = refl
emptied_same (x ∷ xs) (suc n) = emptied_same xs n

emptied_other : (xs : List ℕ) (n m : ℕ) → ¬ (m ≡ n) → get_or (emptied xs n) m 0 ≡ get_or xs m 0
emptied_other [] n m ne = refl
emptied_other (x ∷ xs) zero zero ne = absurd (ne refl)
emptied_other (x ∷ xs) zero (suc m) ne = refl
emptied_other (x ∷ xs) (suc n) zero ne = refl
emptied_other (x ∷ xs) (suc n) (suc m) ne = emptied_other xs n m (λ e. ne (ap suc e))

-- the numbers with that of a switch below all others
abbrev sunk : List ℕ → SwitchId → SwitchId → List ℕ
sunk numbers s t = emptied (lifted numbers s.0) t.0

module _ (numbers : List ℕ) (s t : SwitchId) where
  sunk_same : number_of (sunk numbers s t) t ≡ 0
  sunk_same = emptied_same (lifted numbers s.0) t.0

  sunk_other : (a : SwitchId) → ¬ (a ≡ t) → number_of (sunk numbers s t) a ≡ get_or (lifted numbers s.0) a.0 0
  sunk_other a ne = emptied_other (lifted numbers s.0) t.0 a.0 (λ e. ne (same_switch a t e))

  sunk_first : ¬ (s ≡ t) → IsLower (sunk numbers s t) s t
  sunk_first ne =
      let e = sunk_other s ne in
      let f = sunk_same in
      let h = lifted_here numbers s.0 in
      omega arith

  sunk_still : (a b : SwitchId) → ¬ (a ≡ t) → IsLower numbers a b → IsLower (sunk numbers s t) a b
  sunk_still a b ne less =
      let e = sunk_other a ne in
      let h : number_of numbers a < get_or (lifted numbers s.0) a.0 0 = lifted_least numbers s.0 a.0 (omega arith) in
      elim (cases_switch b t) [
        | inl same ↦ subst (λ x. IsLower (sunk numbers s t) a x) (sym same) (let f = sunk_same in omega arith)
        | inr nb ↦ (
            let f = sunk_other b nb in
            let g : get_or (lifted numbers s.0) b.0 0 ≤ suc (number_of numbers b) = lifted_most numbers s.0 b.0 in
            omega arith)
      ]

pub numbers_with_tail : (numbers : List ℕ) (s : SwitchId) (tail : List SwitchId) → IsDistinct (s ∷ tail)
    → (lower : List ℕ) × FallsAlong lower (s ∷ tail) × ((a b : SwitchId) → ¬ IsIn a tail → IsLower numbers a b → IsLower lower a b)
numbers_with_tail numbers s [] once = (numbers, λ a b h. absurd h, λ a b out less. less)
numbers_with_tail numbers s (t ∷ tail) once =
    let (lower, falls, still) = numbers_with_tail (sunk numbers s t) t tail once.1 in
    let first : IsLower lower s t = still s t (λ i. once.0 (inr i)) (sunk_first numbers s t (λ e. once.0 (inl e))) in (
      lower,
      λ a b h. elim h [
        | inl (e, f) ↦ subst (λ x. IsLower lower x b) (sym e) (subst (IsLower lower s) (sym f) first)
        | inr g ↦ falls a b g
      ],
      λ a b out less. still a b (λ i. out (inr i)) (sunk_still numbers s t a b (λ e. out (inl e)) less),
    )
