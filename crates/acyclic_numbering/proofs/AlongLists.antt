-- Numbers that fall along two lists of switches, where the second enters the first only to follow it.
use Rattle.std.proofs.Common.{◌≡◌, ◌⊎◌, ℕ, zero, suc, ◌≤◌, List, [], ◌∷◌, max, get_or, refl, sym, subst, ap, inl, inr, arith}
use Rattle.std.proofs.lemmas.Bool.{cases_eq}
use Rattle.net_base.proofs.NameLaws.{same_switch}
use Rattle.net_base.specs.Members.{IsIn, IsDistinct}
use Rattle.net_base.specs.declared.ids.SwitchId.{SwitchId}
use Rattle.acyclic_numbering.specs.Heights.{number_of, IsLower}

-- the second switch stands right after the first
abbrev pub IsNext : List SwitchId → SwitchId → SwitchId → Type 0
IsNext [] a b = ⊥
IsNext (x ∷ []) a b = ⊥
IsNext (x ∷ y ∷ rest) a b = ((a ≡ x) × (b ≡ y)) ⊎ IsNext (y ∷ rest) a b

-- the numbers fall along the list
abbrev pub FallsAlong : List ℕ → List SwitchId → Type 0
FallsAlong numbers xs = (a b : SwitchId) → IsNext xs a b → IsLower numbers a b

pub cases_switch : (a b : SwitchId) → (a ≡ b) ⊎ (¬ (a ≡ b))
cases_switch a b = elim (cases_eq a.0 b.0) [ inl e ↦ inl (same_switch a b e) | inr ne ↦ inr (λ e. ne (ap (λ x. x.0) e)) ]

pub cases_in : (a : SwitchId) (xs : List SwitchId) → IsIn a xs ⊎ (¬ IsIn a xs)
cases_in a [] = inr (λ i. i)
cases_in a (x ∷ xs) =
    elim (cases_switch a x) [
      | inl e ↦ inl (inl e)
      | inr ne ↦ elim (cases_in a xs) [ inl i ↦ inl (inr i) | inr none ↦ inr (λ i. elim i [ inl e ↦ ne e | inr j ↦ none j ]) ]
    ]

-- the list with a number at a place, zeros before it where the list is too short
abbrev put : List ℕ → ℕ → ℕ → List ℕ
put [] zero v = v ∷ []
put [] (suc n) v = 0 ∷ put [] n v
put (x ∷ xs) zero v = v ∷ xs
put (x ∷ xs) (suc n) v = x ∷ put xs n v

put_same : (xs : List ℕ) (n v : ℕ) → get_or (put xs n v) n 0 ≡ v
put_same [] zero v = refl
put_same [] (suc n) v = put_same [] n v
put_same (x ∷ xs) zero v = refl
put_same (x ∷ xs) (suc n) v = put_same xs n v

put_other : (xs : List ℕ) (n m v : ℕ) → ¬ (m ≡ n) → get_or (put xs n v) m 0 ≡ get_or xs m 0
put_other [] zero zero v ne = absurd (ne refl)
put_other [] zero (suc m) v ne = refl
put_other [] (suc n) zero v ne = refl
put_other [] (suc n) (suc m) v ne = put_other [] n m v (λ e. ne (ap suc e))
put_other (x ∷ xs) zero zero v ne = absurd (ne refl)
put_other (x ∷ xs) zero (suc m) v ne = refl
put_other (x ∷ xs) (suc n) zero v ne = refl
put_other (x ∷ xs) (suc n) (suc m) v ne = put_other xs n m v (λ e. ne (ap suc e))

abbrev top : List ℕ → ℕ
top [] = 0
top (x ∷ xs) = max x (top xs)

below : (xs : List ℕ) (n : ℕ) → get_or xs n 0 ≤ top xs
below [] n = omega arith
below (x ∷ xs) zero = omega arith
below (x ∷ xs) (suc n) = let h = below xs n in omega arith

-- the numbers with that of a switch raised above all
abbrev raised : List ℕ → SwitchId → List ℕ
raised numbers a = put numbers a.0 (suc (top numbers))

raised_other : (numbers : List ℕ) (a b : SwitchId) → ¬ (b ≡ a) → number_of (raised numbers a) b ≡ number_of numbers b
raised_other numbers a b ne = put_other numbers a.0 b.0 (suc (top numbers)) (λ e. ne (same_switch b a e))

raised_lower : (numbers : List ℕ) (a b : SwitchId) → ¬ (b ≡ a) → IsLower (raised numbers a) a b
raised_lower numbers a b ne =
    let e = raised_other numbers a b ne in
    let f : number_of (raised numbers a) a ≡ suc (top numbers) = put_same numbers a.0 (suc (top numbers)) in
    let h : number_of numbers b ≤ top numbers = below numbers b.0 in
    omega arith

raised_still : (numbers : List ℕ) (a b c : SwitchId) → ¬ (b ≡ a) → ¬ (c ≡ a) → IsLower numbers b c → IsLower (raised numbers a) b c
raised_still numbers a b c nb nc less = let e = raised_other numbers a b nb in let f = raised_other numbers a c nc in omega arith

next_in : (xs : List SwitchId) (a b : SwitchId) → IsNext xs a b → IsIn a xs × IsIn b xs
next_in [] a b h = absurd h
next_in (x ∷ []) a b h = absurd h
next_in (x ∷ y ∷ rest) a b (inl h) = (inl h.0, inr (inl h.1))
next_in (x ∷ y ∷ rest) a b (inr h) = let r = next_in (y ∷ rest) a b h in (inr r.0, inr r.1)

-- what stands after the first of the list
next_after : (x : SwitchId) (xs : List SwitchId) (a b : SwitchId) → IsNext (x ∷ xs) a b → IsIn b xs × ((a ≡ x) ⊎ IsIn a xs)
next_after x [] a b h = absurd h
next_after x (y ∷ rest) a b (inl h) = (inl h.1, inl h.0)
next_after x (y ∷ rest) a b (inr h) = let r = next_in (y ∷ rest) a b h in (r.1, inr r.0)

not_same : (a b : SwitchId) (xs : List SwitchId) → ¬ IsIn a xs → IsIn b xs → ¬ (b ≡ a)
not_same a b xs none i e = none (subst (λ x. IsIn x xs) e i)

-- raising the first switch keeps what falls along the rest, and makes the first step fall
raised_first : (numbers : List ℕ) (x : SwitchId) (xs : List SwitchId) → IsDistinct (x ∷ xs) → FallsAlong numbers xs → FallsAlong (raised numbers x) (x ∷ xs)
raised_first numbers x [] distinct falls a b h = absurd h
raised_first numbers x (y ∷ rest) distinct falls a b (inl h) =
    subst (λ z. IsLower (raised numbers x) z b) (sym h.0) (raised_lower numbers x b (not_same x b (y ∷ rest) distinct.0 (inl h.1)))
raised_first numbers x (y ∷ rest) distinct falls a b (inr h) =
    let (i, j) = next_in (y ∷ rest) a b h in
    raised_still numbers x a b (not_same x a (y ∷ rest) distinct.0 i) (not_same x b (y ∷ rest) distinct.0 j) (falls a b h)

-- numbers that fall along a list of distinct switches
pub numbers_along : (xs : List SwitchId) → IsDistinct xs → (numbers : List ℕ) × FallsAlong numbers xs
numbers_along [] distinct = ([], λ a b h. absurd h)
numbers_along (x ∷ xs) distinct = let (numbers, falls) = numbers_along xs distinct.1 in (raised numbers x, raised_first numbers x xs distinct falls)

module _ (s : SwitchId) (tail : List SwitchId) (distinct : IsDistinct (s ∷ tail)) where
  -- raising a switch that isn't in the tail keeps what falls along the first list
  raised_both : (numbers : List ℕ) (a : SwitchId) → ¬ IsIn a tail → FallsAlong numbers (s ∷ tail) → FallsAlong (raised numbers a) (s ∷ tail)
  raised_both numbers a out falls b c h =
      let (j, i) = next_after s tail b c h in
      let nc = not_same a c tail out j in
      elim (cases_switch b a) [
        | inl e ↦ subst (λ z. IsLower (raised numbers a) z c) (sym e) (raised_lower numbers a c nc)
        | inr nb ↦ raised_still numbers a b c nb nc (falls b c h)
      ]

  -- a list that follows the first one wherever it is in its tail
  abbrev pub Follows : List SwitchId → Type 0
  Follows ys = (a b : SwitchId) → IsNext ys a b → IsIn a tail → IsNext (s ∷ tail) a b

  follows_rest : (y : SwitchId) (ys : List SwitchId) → Follows (y ∷ ys) → Follows ys
  follows_rest y [] follows a b h = absurd h
  follows_rest y (z ∷ ys) follows a b h = follows a b (inr h)

  pub numbers_both : (ys : List SwitchId) → IsDistinct ys → Follows ys → (numbers : List ℕ) × FallsAlong numbers (s ∷ tail) × FallsAlong numbers ys
  numbers_both [] once follows = let (numbers, falls) = numbers_along (s ∷ tail) distinct in (numbers, falls, λ a b h. absurd h)
  numbers_both (y ∷ ys) once follows =
      let (numbers, first, second) = numbers_both ys once.1 (follows_rest y ys follows) in
      elim (cases_in y tail) [
        | inl inside ↦ (numbers, first, here numbers ys first second follows inside)
        | inr out ↦ (raised numbers y, raised_both numbers y out first, raised_first numbers y ys once second)
      ]
    where
      here : (numbers : List ℕ) (zs : List SwitchId) → FallsAlong numbers (s ∷ tail) → FallsAlong numbers zs → Follows (y ∷ zs) → IsIn y tail → FallsAlong numbers (y ∷ zs)
      here numbers [] first second go inside a b h = absurd h
      here numbers (z ∷ zs) first second go inside a b (inl h) = first a b (go a b (inl h) (subst (λ x. IsIn x tail) (sym h.0) inside))
      here numbers (z ∷ zs) first second go inside a b (inr h) = second a b h
