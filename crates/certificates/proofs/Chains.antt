-- What the scans of a list find: that each member is good, and that each next stands in a relation to the one before.
use Rattle.std.proofs.Common.{◌≡◌, ◌↔◌, ℕ, zero, suc, ◌+◌, ◌-◌, ◌<◌, ◌≤◌, Bool, true, false, IsTrue, List, [], ◌∷◌, length, get_or, refl, sym, ◌∙◌, subst, inl, inr, arith}
use Rattle.std.specs.List.{AllByRecursion}
use Rattle.std.proofs.lemmas.Bool.{cases_lt, false≢true}
use Rattle.std.proofs.lemmas.List.{get_or_default}
use Rattle.certificates.specs.Valid.{IsChain}
use Rattle.waypoint_evidence.specs.Befores.{marked_from}

pub refused : {P Q : Type 0} (r : Bool) → r ≡ false → (IsTrue r ↔ P) → (Q → P) → IsTrue false ↔ Q
refused r e told needs = (λ t. absurd (false≢true t), λ q. sym e ∙ told.1 (needs q))

pub granted : {Q : Type 0} → Q → IsTrue true ↔ Q
granted q = (λ t. q, λ h. refl)

module _ {A : Type 0} (P : A → Type 0) where
  -- the members below a place are good
  abbrev pub AreUpTo : List A → ℕ → Type 0
  AreUpTo xs n = (k : ℕ) (d : A) → k < n → P (get_or xs k d)

  pub all_from : (xs : List A) → AreUpTo xs (length xs) → AllByRecursion P xs
  all_from [] h = tt
  all_from (x ∷ xs) h = (h 0 x (omega arith), all_from xs (λ k d lt. h (suc k) d (omega arith)))

  pub all_at : (xs : List A) (k : ℕ) (d : A) → k < length xs → AllByRecursion P xs → P (get_or xs k d)
  all_at [] k d lt h = absurd (omega arith)
  all_at (x ∷ xs) zero d lt h = h.0
  all_at (x ∷ xs) (suc k) d lt h = all_at xs k d (omega arith) h.1

  pub all_more : (xs : List A) (i : ℕ) (x : A) → i < length xs → x ≡ get_or xs i x → P x → AreUpTo xs i → AreUpTo xs (i + 1)
  all_more xs i x lt at here h k d below_ =
      elim (cases_lt k i) [
        | inl before ↦ h k d before
        | inr ge ↦
            let last : i ≡ k = omega arith in
            subst (λ (n : ℕ). P (get_or xs n d)) last (subst P (at ∙ get_or_default xs i x d lt) here)
      ]

  pub all_refused : (xs : List A) (i : ℕ) (x : A) (r : Bool) → i < length xs → x ≡ get_or xs i x → r ≡ false → (IsTrue r ↔ P x) → IsTrue false ↔ AllByRecursion P xs
  all_refused xs i x r lt at e told = refused r e told (λ h. subst P (sym at) (all_at xs i x lt h))

module _ {A : Type 0} (below : A → A → Type 0) where
  -- the members below a place are a chain
  abbrev pub IsChainUpTo : List A → ℕ → Type 0
  IsChainUpTo xs n = (k : ℕ) (d : A) → suc k < n → below (get_or xs k d) (get_or xs (suc k) d)

  pub chain_from : (xs : List A) → IsChainUpTo xs (length xs) → IsChain below xs
  chain_from [] h = tt
  chain_from (x ∷ []) h = tt
  chain_from (x ∷ y ∷ rest) h = (h 0 x (omega arith), chain_from (y ∷ rest) (λ k d lt. h (suc k) d (omega arith)))

  pub chain_at : (xs : List A) (k : ℕ) (d : A) → suc k < length xs → IsChain below xs → below (get_or xs k d) (get_or xs (suc k) d)
  chain_at [] k d lt h = absurd (omega arith)
  chain_at (x ∷ []) k d lt h = absurd (omega arith)
  chain_at (x ∷ y ∷ rest) zero d lt h = h.0
  chain_at (x ∷ y ∷ rest) (suc k) d lt h = chain_at (y ∷ rest) k d (omega arith) h.1

  pub chain_more : (xs : List A) (i : ℕ) (d : A) → 1 ≤ i → i < length xs → below (get_or xs (i - 1) d) (get_or xs i d) → IsChainUpTo xs i → IsChainUpTo xs (i + 1)
  chain_more xs i d some lt here h k e below_ =
      elim (cases_lt (suc k) i) [
        | inl before ↦ h k e before
        | inr ge ↦
            let last : i ≡ suc k = omega arith in
            let one_before : i - 1 ≡ k = omega arith in
            let within : i - 1 < length xs = omega arith in
            let one = subst (λ (x : A). below x (get_or xs i d)) (get_or_default xs (i - 1) d e within) here in
            let other = subst (λ (x : A). below (get_or xs (i - 1) e) x) (get_or_default xs i d e lt) one in
            subst (λ (n : ℕ). below (get_or xs n e) (get_or xs (suc k) e)) one_before (subst (λ (n : ℕ). below (get_or xs (i - 1) e) (get_or xs n e)) last other)
      ]

  pub chain_refused : (xs : List A) (i : ℕ) (d : A) (r : Bool) → 1 ≤ i → i < length xs → r ≡ false → (IsTrue r ↔ below (get_or xs (i - 1) d) (get_or xs i d)) → IsTrue false ↔ IsChain below xs
  chain_refused xs i d r some lt e told =
      let last : suc (i - 1) ≡ i = omega arith in
      refused r e told (λ h. subst (λ (n : ℕ). below (get_or xs (i - 1) d) (get_or xs n d)) last (chain_at xs (i - 1) d (omega arith) h))

-- ---- the numbers of marks

ascends_from : (m k : ℕ) (marks : List Bool) → m < k → IsChain (λ s t. s < t) (m ∷ marked_from k marks)
ascends_from m k [] lt = tt
ascends_from m k (true ∷ marks) lt = (lt, ascends_from k (k + 1) marks (omega arith))
ascends_from m k (false ∷ marks) lt = ascends_from m (k + 1) marks (omega arith)

pub marked_ascends : (k : ℕ) (marks : List Bool) → IsChain (λ s t. s < t) (marked_from k marks)
marked_ascends k [] = tt
marked_ascends k (true ∷ marks) = ascends_from k (k + 1) marks (omega arith)
marked_ascends k (false ∷ marks) = marked_ascends (k + 1) marks

pub marked_below : (k n : ℕ) (marks : List Bool) → ((j : ℕ) → n ≤ k + j → j < length marks → get_or marks j false ≡ false) → AllByRecursion (λ s. s < n) (marked_from k marks)
marked_below k n [] off = tt
marked_below k n (true ∷ marks) off = (
  elim (cases_lt k n) [ inl lt ↦ lt | inr ge ↦ absurd (let e : true ≡ false = off 0 (omega arith) (omega arith) in cc) ],
  marked_below (k + 1) n marks (λ j ge lt. off (suc j) (omega arith) (omega arith)),
)
marked_below k n (false ∷ marks) off = marked_below (k + 1) n marks (λ j ge lt. off (suc j) (omega arith) (omega arith))

pub off_past : (k n : ℕ) (marks : List Bool) → AllByRecursion (λ s. s < n) (marked_from k marks) → (j : ℕ) → n ≤ k + j → j < length marks → get_or marks j false ≡ false
off_past k n [] h j ge lt = absurd (omega arith)
off_past k n (true ∷ marks) h zero ge lt = let first : k < n = h.0 in absurd (omega arith)
off_past k n (false ∷ marks) h zero ge lt = refl
off_past k n (true ∷ marks) h (suc j) ge lt = off_past (k + 1) n marks h.1 j (omega arith) (omega arith)
off_past k n (false ∷ marks) h (suc j) ge lt = off_past (k + 1) n marks h j (omega arith) (omega arith)
