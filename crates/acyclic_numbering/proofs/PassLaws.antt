-- Numbers that are raised along edges until they fall are heights.
use Rattle.std.proofs.Common.{◌≡◌, ℕ, zero, suc, ◌+◌, ◌<◌, ◌≤◌, List, length, get_or, set, replicate, refl, sym, ◌∙◌, subst, ap, inl, inr, arith}
use Rattle.std.proofs.lemmas.Bool.{cases_eq}
use Rattle.std.proofs.lemmas.List.{get_or-set_same, get_or-set_other}
use Rattle.net_base.proofs.NameLaws.{same_switch}
use Rattle.net_base.specs.declared.ids.SwitchId.{SwitchId}
use Rattle.acyclic_numbering.specs.Heights.{IsHeight, AreHeights, Falls, number_of}
use Rattle.acyclic_numbering.specs.Numbered.{IsNextNumber, IsRaisedAlong, AreReached}
use Rattle.acyclic_numbering.specs.declared.Edge.{Edge}
use Rattle.acyclic_numbering.proofs.HeightLaws.{height_next}

all_zero : (n i : ℕ) → get_or {A = ℕ} (replicate n 0) i 0 ≡ 0
all_zero zero i = refl
all_zero (suc n) zero = refl
all_zero (suc n) (suc i) = all_zero n i

module _ (edge : SwitchId → SwitchId → Type 0) where
  pub zeros_reached : (n : ℕ) (numbers : List ℕ) → numbers ≡ replicate n 0 → AreReached edge numbers
  zeros_reached n numbers is = record { each = λ s. inl (ap (λ (xs : List ℕ). number_of xs s) is ∙ all_zero n s.0) }

  -- raising along an edge
  module _ (numbers : List ℕ) (e : Edge) (low : number_of numbers e.from ≤ number_of numbers e.to) (within : e.from.0 < length numbers) where
    abbrev raised : List ℕ
    raised = set numbers e.from.0 (number_of numbers e.to + 1)

    at_from : (s : SwitchId) → s.0 ≡ e.from.0 → number_of raised s ≡ number_of numbers e.to + 1
    at_from s same = ap (λ (k : ℕ). get_or raised k 0) same ∙ get_or-set_same numbers e.from.0 (number_of numbers e.to + 1) 0 within

    elsewhere : (s : SwitchId) → ¬ (s.0 ≡ e.from.0) → number_of raised s ≡ number_of numbers s
    elsewhere s other = get_or-set_other numbers e.from.0 s.0 (number_of numbers e.to + 1) 0 other

    rises : (s : SwitchId) → number_of numbers s ≤ number_of raised s
    rises s =
        elim (cases_eq s.0 e.from.0) [
          | inl same ↦ (
              let at = at_from s same in
              let is : number_of numbers s ≡ number_of numbers e.from = ap (λ (k : ℕ). get_or numbers k 0) same in omega arith)
          | inr other ↦ (let at = elsewhere s other in omega arith)
        ]

    raised_reached : edge e.from e.to → AreReached edge numbers → AreReached edge raised
    raised_reached goes reached = record {
      each = λ s. elim (cases_eq s.0 e.from.0) [
        | inl same ↦ (
            let at = at_from s same in
            let up = rises e.to in inr (e.to, subst (λ (x : SwitchId). edge x e.to) (sym (same_switch s e.from same)) goes, omega arith))
        | inr other ↦ (
            let at = elsewhere s other in
            elim (reached.each s) [
              | inl none ↦ inl (at ∙ none)
              | inr next ↦ (let up = rises next.0 in let most = next.2 in inr (next.0, next.1, omega arith))
            ])
      ];
    }

  pub still_reached : (e : Edge) (numbers new : List ℕ) → e.from.0 < length numbers → edge e.from e.to → IsRaisedAlong e numbers new → AreReached edge numbers → AreReached edge new
  still_reached e numbers new within goes is reached =
      elim is [
        | inl same ↦ subst (λ (xs : List ℕ). AreReached edge xs) (sym same) reached
        | inr more ↦ subst (λ (xs : List ℕ). AreReached edge xs) (sym more.1) (raised_reached numbers e more.0 within goes reached)
      ]

  -- numbers that fall along each edge
  module _ (numbers : List ℕ) (reached : AreReached edge numbers) (falls : Falls edge numbers) where
    next_number : (s : SwitchId) → IsNextNumber edge numbers s (number_of numbers s)
    next_number s = record {
      above = falls s;
      reached = elim (reached.each s) [
        | inl none ↦ inl none
        | inr next ↦ (let less = falls s next.0 next.1 in let most = next.2 in inr (next.0, next.1, omega arith))
      ];
    }

    height_below : (n : ℕ) (s : SwitchId) → number_of numbers s < n → IsHeight edge s (number_of numbers s)
    height_below zero s below = absurd (omega arith)
    height_below (suc n) s below =
        height_next edge numbers s (number_of numbers s) (next_number s) (λ t goes. height_below n t (let less = falls s t goes in omega arith))

    pub fallen_heights : (switches : ℕ) → length numbers ≡ switches → AreHeights edge switches numbers
    fallen_heights switches count = record {
      count = count;
      each = λ s within. height_below (number_of numbers s + 1) s (omega arith);
    }
