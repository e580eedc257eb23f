-- Numbers that fall along timed walks keep them from a switch that they have visited.
use Rattle.std.proofs.Common.{ℕ, ◌<◌, List, [], ◌∷◌, map, refl, ap, arith, inl, inr}
use Rattle.std.specs.List.{AllByRecursion}
use Rattle.net_base.specs.Members.{IsIn, IsDistinct}
use Rattle.net_base.specs.Walks.{IsWalk}
use Rattle.net_base.proofs.MemberLaws.{each_weaker}
use Rattle.net_base.specs.declared.ids.Place.{Place}
use Rattle.acyclic_numbering.specs.Heights.{number_of, Falls}
use Rattle.update_model.specs.Mixtures.{Rollout}
use Rattle.law_spans.specs.Spans.{Span}
use Rattle.law_spans.specs.TimedWalks.{TimedPlace, IsTimedStep, IsTimedWalk, IsMetInRound, IsStepInSpan, switches_met}
use Rattle.law_spans.proofs.WalkLaws.{met_start, met_more}

module _ (u : Rollout) (span : Span) (dst : ℕ) (entry : Place) (numbers : List ℕ) (falls : Falls (IsStepInSpan u span dst entry) numbers) where
  -- a lower number than that of the place
  abbrev IsBelow : TimedPlace → TimedPlace → Type 0
  IsBelow p q = number_of numbers q.place.switch < number_of numbers p.place.switch

  lower : (p : TimedPlace) (rest : List TimedPlace) → IsMetInRound u span dst entry p → IsWalk (IsTimedStep u span dst) p rest → AllByRecursion (IsBelow p) rest
  lower p [] met walk = tt
  lower p (q ∷ rest) met walk =
      let first : IsBelow p q = falls p.place.switch q.place.switch (record { here = p; next = q.place; met = met; goes = walk.0.goes; from_is = refl; to_is = refl }) in
      (first, each_weaker (IsBelow q) (IsBelow p) (λ x h. omega arith) rest (lower q rest (met_more u span dst entry p q met walk.0) walk.1))

  not_again : (p : TimedPlace) (rest : List TimedPlace) → AllByRecursion (IsBelow p) rest → ¬ IsIn p.place.switch (map (λ (q : TimedPlace). q.place.switch) rest)
  not_again p [] below i = i
  not_again p (q ∷ rest) below (inl e) = let same = ap (number_of numbers) e in let less = below.0 in omega arith
  not_again p (q ∷ rest) below (inr i) = not_again p rest below.1 i

  distinct_from : (p : TimedPlace) (rest : List TimedPlace) → IsMetInRound u span dst entry p → IsWalk (IsTimedStep u span dst) p rest → IsDistinct (switches_met p rest)
  distinct_from p [] met walk = (λ i. i, tt)
  distinct_from p (q ∷ rest) met walk = (not_again p (q ∷ rest) (lower p (q ∷ rest) met walk), distinct_from q rest (met_more u span dst entry p q met walk.0) walk.1)

  pub distinct_timed : (start : TimedPlace) (rest : List TimedPlace) → IsTimedWalk u span dst entry start rest → IsDistinct (switches_met start rest)
  distinct_timed start rest walk = distinct_from start rest (met_start u span dst entry start walk.begins walk.within) walk.walk
