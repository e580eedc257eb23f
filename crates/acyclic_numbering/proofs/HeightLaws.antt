-- A switch that is numbered after all that its edges lead to gets its height.
use Rattle.std.proofs.Common.{◌≡◌, ℕ, zero, suc, ◌+◌, ◌<◌, ◌≤◌, Bool, true, false, List, [], ◌∷◌, length, length-set, get_or, set, sym, ◌∙◌, subst, ap, inl, inr, arith}
use Rattle.std.proofs.lemmas.Bool.{cases_eq, false≢true}
use Rattle.std.proofs.lemmas.List.{get_or-set_same, get_or-set_other}
use Rattle.net_base.specs.Walks.{IsWalk}
use Rattle.net_base.specs.declared.ids.SwitchId.{SwitchId}
use Rattle.acyclic_numbering.specs.Heights.{IsHeight, number_of}
use Rattle.acyclic_numbering.specs.Numbered.{IsOpen, open_count, IsNumberable, IsNextNumber, AreHeightsSoFar}
use Rattle.net_base.proofs.NameLaws.{same_switch}

pub count_set : (marks : List Bool) (i : ℕ) → get_or marks i false ≡ true → open_count (set marks i false) + 1 ≡ open_count marks
count_set [] i e = absurd (false≢true e)
count_set (true ∷ marks) zero e = omega arith
count_set (false ∷ marks) zero e = absurd (false≢true e)
count_set (true ∷ marks) (suc i) e = let h = count_set marks i e in omega arith
count_set (false ∷ marks) (suc i) e = count_set marks i e

count_most : (marks : List Bool) → open_count marks ≤ length marks
count_most [] = omega arith
count_most (true ∷ marks) = let h = count_most marks in omega arith
count_most (false ∷ marks) = let h = count_most marks in omega arith

module _ (edge : SwitchId → SwitchId → Type 0) (numbers : List ℕ) (s : SwitchId) (number : ℕ) (next : IsNextNumber edge numbers s number) where
  pub height_next : ((t : SwitchId) → edge s t → IsHeight edge t (number_of numbers t)) → IsHeight edge s number
  height_next each =
      elim next.reached [
        | inl e ↦ record { longest = []; walk = tt; length_is = sym e; most = most }
        | inr t ↦ (
            let h = each t.0 t.1 in
            let long = h.length_is in
            let is = t.2 in
            record { longest = t.0 ∷ h.longest; walk = (t.1, h.walk); length_is = omega arith; most = most })
      ]
    where
      most : (rest : List SwitchId) → IsWalk edge s rest → length rest ≤ number
      most [] walk = omega arith
      most (t ∷ rest) walk =
          let long = (each t walk.0).most rest walk.1 in
          let above = next.above t walk.0 in omega arith

  module _ (pending : List Bool) (so_far : AreHeightsSoFar edge pending numbers) (within : s.0 < length pending) (opens : IsOpen pending s) (ready : IsNumberable edge pending s)
      (inside : (t : SwitchId) → edge s t → t.0 < length pending) where
    same_at : (t : SwitchId) → t.0 ≡ s.0 → number_of (set numbers s.0 number) t ≡ number
    same_at t e =
        let count = so_far.count in
        let n_in : s.0 < length numbers = omega arith in
        ap (λ (k : ℕ). get_or (set numbers s.0 number) k 0) e ∙ get_or-set_same numbers s.0 number 0 n_in

    closed_before : (t : SwitchId) → ¬ (t.0 ≡ s.0) → ¬ IsOpen (set pending s.0 false) t → ¬ IsOpen pending t
    closed_before t ne closed o = closed (get_or-set_other pending s.0 t.0 false false ne ∙ o)

    pub so_far_more : AreHeightsSoFar edge (set pending s.0 false) (set numbers s.0 number)
    so_far_more =
        let n_len = length-set numbers s.0 number in
        let p_len = length-set pending s.0 false in
        let count = so_far.count in
        let falls = count_set pending s.0 opens in
        record {
          count = omega arith;
          each = λ t t_in closed. elim (cases_eq t.0 s.0) [
            | inl e ↦ (
                let same = same_switch t s e in
                subst (λ (n : ℕ). IsHeight edge t n) (sym (same_at t e))
                (subst (λ (x : SwitchId). IsHeight edge x number) (sym same) (height_next (λ u goes. so_far.each u (inside u goes) (ready u goes)))))
            | inr ne ↦ subst (λ (n : ℕ). IsHeight edge t n) (sym (get_or-set_other numbers s.0 t.0 number 0 ne)) (so_far.each t (let h = t_in in omega arith) (closed_before t ne closed))
          ];
          low = λ t t_in closed. elim (cases_eq t.0 s.0) [
            | inl e ↦ (let at = same_at t e in elim next.reached [
              | inl z ↦ (let most = count_most pending in omega arith)
              | inr u ↦ (let below = so_far.low u.0 (inside u.0 u.1) (ready u.0 u.1) in let is = u.2 in omega arith)
            ])
            | inr ne ↦ (
                let at = get_or-set_other numbers s.0 t.0 number 0 ne in
                let below = so_far.low t (let h = t_in in omega arith) (closed_before t ne closed) in omega arith)
          ];
        }
