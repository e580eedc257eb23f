-- Marks as a set of numbers.
use Rattle.std.proofs.Common.{◌≡◌, ◌⊎◌, ◌↔◌, ℕ, zero, suc, ◌+◌, ◌<◌, ◌≤◌, Bool, true, false, List, [], ◌∷◌, ◌++◌, length, get_or, set, refl, sym, ap, ◌∙◌, subst, inl, inr, arith}
use Rattle.std.proofs.lemmas.Bool.{false≢true, cases_eq, false_from_ne_true}
use Rattle.std.proofs.lemmas.List.{get_or-set_same, get_or-set_other}
use Rattle.std.specs.List.{AllByRecursion}
use Rattle.net_base.specs.Members.{IsIn}
use Rattle.std.specs.Prelude.{Option, Some, None}
use Rattle.net_base.specs.declared.ids.SwitchId.{SwitchId}
use Rattle.waypoint_evidence.specs.Befores.{marked_from, HoldsEarlier}

marked_above : (k : ℕ) (marks : List Bool) (n : ℕ) → IsIn n (marked_from k marks) → k ≤ n
marked_above k [] n i = absurd i
marked_above k (true ∷ marks) n (inl e) = omega arith
marked_above k (true ∷ marks) n (inr i) = let h = marked_above (k + 1) marks n i in omega arith
marked_above k (false ∷ marks) n i = let h = marked_above (k + 1) marks n i in omega arith

-- what is marked, by its place
pub place_from_marked : (k : ℕ) (marks : List Bool) (n : ℕ) → IsIn (k + n) (marked_from k marks) → get_or marks n false ≡ true
place_from_marked k [] n i = absurd i
place_from_marked k (true ∷ marks) zero i = refl
place_from_marked k (false ∷ marks) zero i = let h = marked_above (k + 1) marks (k + 0) i in absurd (omega arith)
place_from_marked k (true ∷ marks) (suc n) (inl e) = absurd (omega arith)
place_from_marked k (true ∷ marks) (suc n) (inr i) =
    let e : k + suc n ≡ (k + 1) + n = omega arith in place_from_marked (k + 1) marks n (subst (λ m. IsIn m (marked_from (k + 1) marks)) e i)
place_from_marked k (false ∷ marks) (suc n) i =
    let e : k + suc n ≡ (k + 1) + n = omega arith in place_from_marked (k + 1) marks n (subst (λ m. IsIn m (marked_from (k + 1) marks)) e i)

pub marked_from_place : (k : ℕ) (marks : List Bool) (n : ℕ) → get_or marks n false ≡ true → IsIn (k + n) (marked_from k marks)
marked_from_place k [] n e = absurd (false≢true e)
marked_from_place k (true ∷ marks) zero e = inl (omega arith)
marked_from_place k (false ∷ marks) zero e = absurd (false≢true e)
marked_from_place k (true ∷ marks) (suc n) e =
    let f : (k + 1) + n ≡ k + suc n = omega arith in inr (subst (λ m. IsIn m (marked_from (k + 1) marks)) f (marked_from_place (k + 1) marks n e))
marked_from_place k (false ∷ marks) (suc n) e =
    let f : (k + 1) + n ≡ k + suc n = omega arith in subst (λ m. IsIn m (marked_from (k + 1) marks)) f (marked_from_place (k + 1) marks n e)

-- a number is marked exactly where its mark is on
pub marked_at : (marks : List Bool) (n : ℕ) → IsIn n (marked_from 0 marks) ↔ (get_or marks n false ≡ true)
marked_at marks n =
    let e : n ≡ 0 + n = omega arith in (
      λ i. place_from_marked 0 marks n (subst (λ m. IsIn m (marked_from 0 marks)) e i),
      λ f. subst (λ m. IsIn m (marked_from 0 marks)) (sym e) (marked_from_place 0 marks n f),
    )

-- one more mark
pub marked-set : (marks : List Bool) (m n : ℕ) → m < length marks → IsIn n (marked_from 0 (set marks m true)) ↔ ((n ≡ m) ⊎ IsIn n (marked_from 0 marks))
marked-set marks m n within = (
  λ i. elim (cases_eq n m) [
    | inl e ↦ inl e
    | inr ne ↦ inr ((marked_at marks n).1 (sym (get_or-set_other marks m n true false ne) ∙ (marked_at (set marks m true) n).0 i))
  ],
  λ h. (marked_at (set marks m true) n).1 (elim (cases_eq n m) [
    | inl e ↦ subst (λ k. get_or (set marks m true) k false ≡ true) (sym e) (get_or-set_same marks m true false within)
    | inr ne ↦ elim h [
      | inl e ↦ absurd (ne e)
      | inr i ↦ get_or-set_other marks m n true false ne ∙ (marked_at marks n).0 i
    ]
  ]),
)

pub length-marked : (k : ℕ) (marks : List Bool) → length (marked_from k marks) ≤ length marks
length-marked k [] = omega arith
length-marked k (true ∷ marks) = let h = length-marked (k + 1) marks in omega arith
length-marked k (false ∷ marks) = let h = length-marked (k + 1) marks in omega arith

pub length-marked_set : (k : ℕ) (marks : List Bool) (n : ℕ) → n < length marks → get_or marks n false ≡ false → length (marked_from k (set marks n true)) ≡ length (marked_from k marks) + 1
length-marked_set k [] n within off = absurd (omega arith)
length-marked_set k (true ∷ marks) zero within off = absurd (false≢true (sym off))
length-marked_set k (false ∷ marks) zero within off = let h = shifted (k + 1) marks in omega arith
  where
    shifted : (k : ℕ) (marks : List Bool) → length (marked_from k marks) ≡ length (marked_from k marks)
    shifted k marks = refl
length-marked_set k (true ∷ marks) (suc n) within off = let h = length-marked_set (k + 1) marks n (omega arith) off in omega arith
length-marked_set k (false ∷ marks) (suc n) within off = length-marked_set (k + 1) marks n (omega arith) off

pub not_marked : (marks : List Bool) (n : ℕ) → ¬ IsIn n (marked_from 0 marks) → get_or marks n false ≡ false
not_marked marks n out = false_from_ne_true (get_or marks n false) (λ e. out ((marked_at marks n).1 e))

-- a number is in a list or not
pub cases_in : (n : ℕ) (xs : List ℕ) → IsIn n xs ⊎ (¬ IsIn n xs)
cases_in n [] = inr (λ i. i)
cases_in n (x ∷ xs) =
    elim (cases_eq n x) [
      | inl e ↦ inl (inl e)
      | inr ne ↦ elim (cases_in n xs) [ inl i ↦ inl (inr i) | inr out ↦ inr (λ i. elim i [ inl e ↦ ne e | inr j ↦ out j ]) ]
    ]

pub cases_earlier : (earlier : Option (List ℕ)) (s : SwitchId) → HoldsEarlier earlier s ⊎ (¬ HoldsEarlier earlier s)
cases_earlier None s = inr (λ h. h)
cases_earlier (Some xs) s = cases_in s.0 xs

-- ---- a mark past all others

none_marked : (n k : ℕ) (marks : List Bool) → n ≤ k → AllByRecursion (λ t. t < n) (marked_from k marks) → marked_from k marks ≡ []
none_marked n k [] past h = refl
none_marked n k (true ∷ marks) past h = let first : k < n = h.0 in absurd (omega arith)
none_marked n k (false ∷ marks) past h = none_marked n (k + 1) marks (omega arith) h

pub marked-set_last : (k : ℕ) (marks : List Bool) (m : ℕ) → m < length marks → AllByRecursion (λ t. t < k + m) (marked_from k marks) → marked_from k (set marks m true) ≡ marked_from k marks ++ (k + m) ∷ []
marked-set_last k [] m within h = absurd (omega arith)
marked-set_last k (true ∷ marks) zero within h = let first : k < k + 0 = h.0 in absurd (omega arith)
marked-set_last k (false ∷ marks) zero within h =
    let e : k ≡ k + 0 = omega arith in
    rw (none_marked (k + 0) (k + 1) marks (omega arith) h) (ap (λ (n : ℕ). n ∷ []) e)
marked-set_last k (true ∷ marks) (suc m) within h =
    let e : k + suc m ≡ (k + 1) + m = omega arith in
    let next = marked-set_last (k + 1) marks m (omega arith) (subst (λ n. AllByRecursion (λ t. t < n) (marked_from (k + 1) marks)) e h.1) in
    rw e (ap (λ (l : List ℕ). k ∷ l) next)
marked-set_last k (false ∷ marks) (suc m) within h =
    let e : k + suc m ≡ (k + 1) + m = omega arith in
    rw e (marked-set_last (k + 1) marks m (omega arith) (subst (λ n. AllByRecursion (λ t. t < n) (marked_from (k + 1) marks)) e h))
