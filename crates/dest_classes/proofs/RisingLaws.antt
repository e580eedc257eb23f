-- Rising lists of numbers are determined by their members.
use Rattle.std.proofs.Common.{◌≡◌, ℕ, zero, suc, ◌+◌, ◌-◌, ◌<◌, ◌≤◌, cond, List, [], ◌∷◌, length, get_or, refl, sym, ◌∙◌, subst, ap, arith, inl, inr}
use Rattle.std.specs.Prelude.{◌==◌, ◌⊎◌, nat_lt, Some}
use Rattle.std.specs.List.{AllByRecursion, Contains}
use Rattle.std.specs.List.Sorted.{IsStrictlyIncreasing, IsNonDecreasing}
use Rattle.std.proofs.lemmas.Bool.{ltb-true, ltb-false, eqb-false, cond_both, cases_lt}
use Rattle.std.proofs.lemmas.Option.{slice_get_within, slice_get-get_or, get_or_from_slice_get}
use Rattle.std.proofs.lemmas.List.Kept.{AllPairs-from_increasing}
use Rattle.net_base.specs.Members.{IsIn, IsSameSet}
use Rattle.net_base.proofs.MemberLaws.{each_weaker, each_at, each_from_in}
use Rattle.dest_classes.specs.Classes.{with_number, ascending_numbers}
use Rattle.net_base.proofs.ItemLaws.{in_from_get, get_from_in}

pub contains_from_in : {A : Type 0} (xs : List A) (x : A) → IsIn x xs → Contains xs x
contains_from_in xs x i = let (n, e) = get_from_in xs x i in (n, slice_get_within xs n x e, get_or_from_slice_get xs n x x e)

pub in_from_contains : (xs : List ℕ) (x : ℕ) → Contains xs x → IsIn x xs
in_from_contains xs x (n, lt, e) = in_from_get xs n x (slice_get-get_or xs n x lt ∙ ap Some e)

-- each member is below all that follow it
abbrev pub Rises : List ℕ → Type 0
Rises [] = Unit {0}
Rises (x ∷ xs) = AllByRecursion (λ y. x < y) xs × Rises xs

pub in_from_with : (x z : ℕ) (ys : List ℕ) → IsIn z (with_number x ys) → (z ≡ x) ⊎ IsIn z ys
in_from_with x z [] i = elim i [ inl e ↦ inl e | inr j ↦ absurd j ]
in_from_with x z (y ∷ ys) i =
    cond_both (nat_lt x y) (x ∷ y ∷ ys) (cond (x == y) (y ∷ ys) (y ∷ with_number x ys)) (λ zs. IsIn z zs → (z ≡ x) ⊎ IsIn z (y ∷ ys)) (λ _ j. j)
    (λ _. cond_both (x == y) (y ∷ ys) (y ∷ with_number x ys) (λ zs. IsIn z zs → (z ≡ x) ⊎ IsIn z (y ∷ ys)) (λ _ j. inr j)
    (λ _ j. elim j [
      | inl e ↦ inr (inl e)
      | inr k ↦ elim (in_from_with x z ys k) [ inl e ↦ inl e | inr l ↦ inr (inr l) ]
    ])) i

pub in_from_ascending : (z : ℕ) (xs : List ℕ) → IsIn z (ascending_numbers xs) → IsIn z xs
in_from_ascending z [] i = absurd i
in_from_ascending z (x ∷ xs) i = elim (in_from_with x z (ascending_numbers xs) i) [ inl e ↦ inl e | inr j ↦ inr (in_from_ascending z xs j) ]

rises_with : (x : ℕ) (ys : List ℕ) → Rises ys → Rises (with_number x ys)
rises_with x [] h = (tt, tt)
rises_with x (y ∷ ys) h =
    cond_both (nat_lt x y) (x ∷ y ∷ ys) (cond (x == y) (y ∷ ys) (y ∷ with_number x ys)) Rises
    (λ e. let lt = ltb-true x y e in ((lt, each_weaker (λ z. y < z) (λ z. x < z) (λ z more. omega arith) ys h.0), h))
    (λ e. cond_both (x == y) (y ∷ ys) (y ∷ with_number x ys) Rises (λ _. h)
    (λ f.
    let le = ltb-false x y e in
    let ne = eqb-false x y f in
    let lt : y < x = omega arith in (
      each_from_in (λ z. y < z) (with_number x ys) (λ z i. elim (in_from_with x z ys i) [ inl g ↦ omega arith | inr j ↦ each_at (λ w. y < w) ys z h.0 j ]),
      rises_with x ys h.1,
    )))

pub rises_ascending : (xs : List ℕ) → Rises (ascending_numbers xs)
rises_ascending [] = tt
rises_ascending (x ∷ xs) = rises_with x (ascending_numbers xs) (rises_ascending xs)

none_below : (x : ℕ) (xs : List ℕ) → AllByRecursion (λ y. x < y) xs → IsIn x xs → ⊥
none_below x xs h i = let lt = each_at (λ y. x < y) xs x h i in omega arith

-- rising lists with the same members are one
pub same_rising : (xs ys : List ℕ) → Rises xs → Rises ys → IsSameSet xs ys → xs ≡ ys
same_rising [] [] h k same = refl
same_rising [] (y ∷ ys) h k same = absurd ((same y).1 (inl refl))
same_rising (x ∷ xs) [] h k same = absurd ((same x).0 (inl refl))
same_rising (x ∷ xs) (y ∷ ys) h k same =
    let e : x ≡ y = elim ((same x).0 (inl refl)) [
      | inl e ↦ e
      | inr i ↦ elim ((same y).1 (inl refl)) [
        | inl f ↦ sym f
        | inr j ↦ (let a = each_at (λ z. y < z) ys x k.0 i in let b = each_at (λ z. x < z) xs y h.0 j in absurd (omega arith))
      ]
    ] in
    let rest : IsSameSet xs ys = λ z. (
      λ i. elim ((same z).0 (inr i)) [ inl f ↦ absurd (none_below x xs h.0 (subst (λ w. IsIn w xs) (f ∙ sym e) i)) | inr j ↦ j ],
      λ i. elim ((same z).1 (inr i)) [ inl f ↦ absurd (none_below y ys k.0 (subst (λ w. IsIn w ys) (f ∙ e) i)) | inr j ↦ j ],
    ) in
    ap (λ z. z ∷ xs) e ∙ ap (λ zs. y ∷ zs) (same_rising xs ys h.1 k.1 rest)

-- the same of numbers at places
rises_pairs : (xs : List ℕ) → ((i j : ℕ) → i < j → j < length xs → get_or xs i 0 < get_or xs j 0) → Rises xs
rises_pairs [] h = tt
rises_pairs (x ∷ xs) h = (
  each_from_in (λ y. x < y) xs
      (λ y i.
      let (n, e) = get_from_in xs y i in
      let lt = slice_get_within xs n y e in
      let at = get_or_from_slice_get xs n y 0 e in
      subst (λ z. x < z) at (h 0 (suc n) (omega arith) (omega arith))),
  rises_pairs xs (λ i j lt within. h (suc i) (suc j) (omega arith) (omega arith)),
)

pub rises_from_increasing : (xs : List ℕ) → IsStrictlyIncreasing xs → Rises xs
rises_from_increasing xs h = rises_pairs xs (λ i j lt within. AllPairs-from_increasing xs h i j 0 lt within)

pub increasing_from_rises : (xs : List ℕ) → Rises xs → IsStrictlyIncreasing xs
increasing_from_rises [] h k lt = absurd (omega arith)
increasing_from_rises (x ∷ []) h k lt = absurd (omega arith)
increasing_from_rises (x ∷ y ∷ xs) h zero lt = h.0.0
increasing_from_rises (x ∷ y ∷ xs) h (suc k) lt =
    let one : k + 1 ≡ suc k = omega arith in
    let two : suc (suc k) ≡ suc k + 1 = omega arith in
    subst (λ n. get_or (y ∷ xs) k 0 < get_or (x ∷ y ∷ xs) n 0) two (subst (λ n. get_or (y ∷ xs) k 0 < get_or (y ∷ xs) n 0) one (increasing_from_rises (y ∷ xs) h.1 k (omega arith)))

-- a number at a place is at least the place
pub at_least_place : (xs : List ℕ) → IsStrictlyIncreasing xs → (k : ℕ) → k < length xs → k ≤ get_or xs k 0
at_least_place xs h zero lt = omega arith
at_least_place xs h (suc k) lt =
    let less = at_least_place xs h k (omega arith) in
    let step = AllPairs-from_increasing xs h k (suc k) 0 (omega arith) lt in
    omega arith

pub non_decreasing : (xs : List ℕ) → IsStrictlyIncreasing xs → IsNonDecreasing xs
non_decreasing xs h i j d le within =
    elim (cases_lt i j) [
      | inl lt ↦ (let f = AllPairs-from_increasing xs h i j d lt within in omega arith)
      | inr ge ↦ (let e : i ≡ j = omega arith in let f = ap (λ n. get_or xs n d) e in omega arith)
    ]

-- the same number stands at one place
pub same_place : (xs : List ℕ) → IsStrictlyIncreasing xs → (i j : ℕ) → i < length xs → j < length xs → get_or xs i 0 ≡ get_or xs j 0 → i ≡ j
same_place xs h i j within here e =
    elim (cases_lt i j) [
      | inl lt ↦ (let f = AllPairs-from_increasing xs h i j 0 lt here in absurd (omega arith))
      | inr ge ↦ elim (cases_lt j i) [
        | inl lt ↦ (let f = AllPairs-from_increasing xs h j i 0 lt within in absurd (omega arith))
        | inr le ↦ omega arith
      ]
    ]

-- rising numbers below a bound are no more than the bound
pub few_below : (xs : List ℕ) (n : ℕ) → IsStrictlyIncreasing xs → ((k : ℕ) → get_or xs k 0 < n) → length xs ≤ n
few_below xs n h below =
    elim (cases_lt 0 (length xs)) [
      | inl some ↦ (let a = at_least_place xs h (length xs - 1) (omega arith) in let b = below (length xs - 1) in omega arith)
      | inr none ↦ omega arith
    ]
