-- Walks along steps between places that don't come to a switch twice.
use Rattle.std.proofs.Common.{◌≡◌, ℕ, Bool, List, [], ◌∷◌, map, length, refl, sym, ◌∙◌, subst, ap, inl, inr}
use Rattle.std.specs.List.{AllByRecursion}
use Rattle.net_base.specs.Members.{IsIn, IsDistinct}
use Rattle.net_base.specs.Walks.{IsWalk}
use Rattle.net_base.proofs.MemberLaws.{each_at}
use Rattle.net_base.proofs.ItemLaws.{get_from_in, past_end}
use Rattle.net_base.specs.declared.ids.SwitchId.{SwitchId}
use Rattle.net_base.specs.declared.ids.Place.{Place}
use Rattle.update_model.specs.Mixtures.{Rollout, IsMixedWalk}
use Rattle.breaking_walks.specs.PlaceSteps.{StepState, StandsAt, IsPlaceStep, NotesSteps, IsBehind, LeadsOn, NeverBack}
use Rattle.breaking_walks.specs.Surveys.{NeverRepeats}
use Rattle.breaking_walks.specs.declared.passing.NumberedPlace.{NumberedPlace}
use Rattle.breaking_walks.specs.declared.passing.PlaceStep.{PlaceStep}

-- the switches of places
abbrev switches : List NumberedPlace → List SwitchId
switches places = map (λ (p : NumberedPlace). p.switch) places

-- where all steps lead on no walk comes back
module _ (marks : List Bool) (s : SwitchId) (steps : List PlaceStep) (all : AllByRecursion (LeadsOn marks s) steps) where
  never_behind : (p : NumberedPlace) (rest : List NumberedPlace) → IsBehind marks s p → IsWalk (IsPlaceStep steps) p rest → ¬ IsIn s (switches rest)
  never_behind p [] behind walk i = i
  never_behind p (q ∷ rest) behind walk i =
      let (marked, other) = each_at (LeadsOn marks s) steps (record { from = p; to = q }) all walk.0 behind in
      elim i [ inl e ↦ other (sym e) | inr j ↦ never_behind q rest (inr marked) walk.1 j ]

  pub never_back : NeverBack steps s
  never_back p rest at walk = never_behind p rest (inl at) walk

-- where none comes back to any switch that a step leaves, none comes to a switch twice
module _ (steps : List PlaceStep) (back : (step : PlaceStep) → IsIn step steps → NeverBack steps step.from.switch) where
  distinct_numbered : (p : NumberedPlace) (rest : List NumberedPlace) → IsWalk (IsPlaceStep steps) p rest → IsDistinct (switches (p ∷ rest))
  distinct_numbered p [] walk = (λ i. i, tt)
  distinct_numbered p (q ∷ rest) walk = (back (record { from = p; to = q }) walk.0 p (q ∷ rest) refl walk, distinct_numbered q rest walk.1)

  -- a walk between places is one along the steps
  module _ (u : Rollout) (k dst : ℕ) (noted : StepState) (same : noted.steps ≡ steps) (notes : NotesSteps u k dst (length noted.places) noted) where
    along : (from : NumberedPlace) (p : Place) (rest : List Place) → StandsAt noted.places from p → IsMixedWalk u k dst p rest
        → (numbered : List NumberedPlace) × IsWalk (IsPlaceStep steps) from numbered × (switches numbered ≡ map (λ (q : Place). q.switch) rest)
    along from p [] stands walk = ([], tt, refl)
    along from p (q ∷ rest) stands walk =
        let (to, there, step) = notes.goes from p q (past_end noted.places from.number p stands.at) stands walk.0 in
        let (numbered, so, is) = along to q rest there walk.1 in (
          to ∷ numbered,
          (subst (λ (xs : List PlaceStep). IsPlaceStep xs from to) same step, so),
          ap (λ (x : SwitchId). x ∷ switches numbered) there.switch_is ∙ ap (λ (xs : List SwitchId). q.switch ∷ xs) is,
        )

    pub passed_once : (p : Place) → IsIn p noted.places → NeverRepeats u k dst p
    passed_once p i rest walk =
        let (n, at) = get_from_in noted.places p i in
        let from : NumberedPlace = record { number = n; switch = p.switch } in
        let (numbered, so, is) = along from p rest (record { at = at; switch_is = refl }) walk in
        subst IsDistinct (ap (λ (xs : List SwitchId). p.switch ∷ xs) is) (distinct_numbered from numbered so)
