-- The numbers of the changes of a round that pass a test.
use Rattle.std.proofs.Common.{◌≡◌, ℕ, zero, suc, ◌+◌, ◌<◌, ◌≤◌, Bool, true, false, cond, List, [], ◌∷◌, ◌++◌, length, get_or, drop, refl, sym, ◌∙◌, subst, ap, arith, add-one}
use Rattle.std.proofs.Math.Seq.{drop-cons}
use Rattle.std.specs.Prelude.{Option, Some, slice_get, slice_index, filter, filter_map}
use Rattle.std.specs.List.{AllByRecursion, cons_option}
use Rattle.std.specs.List.Sorted.{IsStrictlyIncreasing}
use Rattle.std.proofs.lemmas.Bool.{cond_both}
use Rattle.std.proofs.lemmas.List.{drop_all, append-nil}
use Rattle.net_base.proofs.MemberLaws.{each_weaker}
use Rattle.update_model.specs.declared.Change.{Change}
use Rattle.outcome_changes.specs.Trials.{numbers_where}

-- one more number below all others
rise_more : (x : ℕ) (xs : List ℕ) → AllByRecursion (λ m. x < m) xs → IsStrictlyIncreasing xs → IsStrictlyIncreasing (x ∷ xs)
rise_more x [] all rise k within = absurd (omega arith)
rise_more x (y ∷ ys) all rise zero within = all.0
rise_more x (y ∷ ys) all rise (suc k) within =
    let e : suc (k + 1) ≡ suc k + 1 = omega arith in
    subst (λ n. slice_index (y ∷ ys) k < slice_index (x ∷ y ∷ ys) n) e (rise k (omega arith))

module _ (p : Change → Bool) where
  -- the numbers are none below the first, and ascend
  numbers_above : (n : ℕ) (cs : List Change) → AllByRecursion (λ m. n ≤ m) (numbers_where n p cs)
  numbers_above n [] = tt
  numbers_above n (c ∷ cs) =
      let rest : AllByRecursion (λ m. n ≤ m) (numbers_where (suc n) p cs) =
      each_weaker (λ m. suc n ≤ m) (λ m. n ≤ m) (λ m le. omega arith) (numbers_where (suc n) p cs) (numbers_above (suc n) cs) in
      cond_both (p c) (n ∷ numbers_where (suc n) p cs) (numbers_where (suc n) p cs) (AllByRecursion (λ m. n ≤ m)) (λ _. (omega arith, rest)) (λ _. rest)

  pub numbers_rise : (n : ℕ) (cs : List Change) → IsStrictlyIncreasing (numbers_where n p cs)
  numbers_rise n [] = λ k within. absurd (omega arith)
  numbers_rise n (c ∷ cs) =
      let rest = numbers_rise (suc n) cs in
      cond_both (p c) (n ∷ numbers_where (suc n) p cs) (numbers_where (suc n) p cs) IsStrictlyIncreasing
      (λ _. rise_more n (numbers_where (suc n) p cs) (each_weaker (λ m. suc n ≤ m) (λ m. n < m) (λ m le. omega arith) (numbers_where (suc n) p cs) (numbers_above (suc n) cs)) rest)
      (λ _. rest)

  -- what holds of the number of each change that passes
  pub each_number : (P : ℕ → Type 0) (n : ℕ) (cs : List Change) → ((i : ℕ) (c : Change) → slice_get cs i ≡ Some c → p c ≡ true → P (n + i))
      → AllByRecursion P (numbers_where n p cs)
  each_number P n [] h = tt
  each_number P n (c ∷ cs) h =
      let rest = each_number P (suc n) cs (λ i d at passes. subst P (omega arith) (h (suc i) d at passes)) in
      cond_both (p c) (n ∷ numbers_where (suc n) p cs) (numbers_where (suc n) p cs) (AllByRecursion P) (λ passes. (subst P (omega arith) (h zero c refl passes), rest)) (λ _. rest)

  -- the changes with these numbers are those that pass
  pub numbered : (f : ℕ → Option Change) (n : ℕ) (cs : List Change) → ((i : ℕ) → f (n + i) ≡ slice_get cs i)
      → filter_map f (numbers_where n p cs) ≡ filter p cs
  numbered f n [] h = refl
  numbered f n (c ∷ cs) h =
      let here : f n ≡ Some c = ap f (omega arith) ∙ h zero in
      let rest = numbered f (suc n) cs (λ i. let e : suc n + i ≡ n + suc i = omega arith in ap f e ∙ h (suc i)) in
      elim (p c) as (λ b. filter_map f (cond b (n ∷ numbers_where (suc n) p cs) (numbers_where (suc n) p cs)) ≡ cond b (c ∷ filter p cs) (filter p cs)) [
        | true ↦ ap (λ o. cons_option o (filter_map f (numbers_where (suc n) p cs))) here ∙ ap (λ ds. c ∷ ds) rest
        | false ↦ rest
      ]

  -- the numbers from a place on
  pub numbers_next : (cs : List Change) (i : ℕ) (c : Change) → i < length cs → c ≡ get_or cs i c
      → numbers_where i p (drop i cs) ≡ cond (p c) (i ∷ []) [] ++ numbers_where (i + 1) p (drop (i + 1) cs)
  numbers_next cs i c less at =
      let split : drop i cs ≡ c ∷ drop (i + 1) cs =
      drop-cons cs i c less ∙ ap (λ (x : Change). x ∷ drop (suc i) cs) (sym at) ∙ ap (λ n. c ∷ drop n cs) (sym (add-one i)) in
      ap (numbers_where i p) split ∙ ap (λ n. cond (p c) (i ∷ numbers_where n p (drop (i + 1) cs)) (numbers_where n p (drop (i + 1) cs))) (sym (add-one i))
      ∙ parted (p c) (numbers_where (i + 1) p (drop (i + 1) cs))
    where
      parted : (b : Bool) (xs : List ℕ) → cond b (i ∷ xs) xs ≡ cond b (i ∷ []) [] ++ xs
      parted true xs = refl
      parted false xs = refl

  -- none are left at the end
  pub numbers_done : (numbers : List ℕ) (cs : List Change) (i : ℕ) → length cs ≤ i → numbers ++ numbers_where i p (drop i cs) ≡ numbers
  numbers_done numbers cs i past = ap (λ ds. numbers ++ numbers_where i p ds) (drop_all i cs past) ∙ append-nil numbers
