-- Numbers that fall along mixed walks keep them from a switch that they have visited.
use Rattle.std.proofs.Common.{ℕ, ◌<◌, List, [], ◌∷◌, map, refl, ap, arith, inl, inr}
use Rattle.std.specs.List.{AllByRecursion}
use Rattle.net_base.specs.Members.{IsIn, IsDistinct}
use Rattle.net_base.specs.Walks.{IsWalk}
use Rattle.net_base.proofs.WalkLaws.{reached_more, reached_start}
use Rattle.net_base.proofs.MemberLaws.{each_weaker}
use Rattle.net_base.specs.declared.ids.Place.{Place}
use Rattle.acyclic_numbering.specs.Heights.{number_of, Falls}
use Rattle.update_model.specs.Mixtures.{Rollout, MayGo, IsMixedWalk, IsOnMixedWalk}
use Rattle.certificates.specs.Steps.{IsMixedStep, switches_along}

module _ (u : Rollout) (k dst : ℕ) (entry : Place) (numbers : List ℕ) (falls : Falls (IsMixedStep u k dst entry) numbers) where
  -- a lower number than that of the place
  abbrev IsBelow : Place → Place → Type 0
  IsBelow p q = number_of numbers q.switch < number_of numbers p.switch

  lower : (p : Place) (rest : List Place) → IsOnMixedWalk u k dst entry p → IsWalk (MayGo u k dst) p rest → AllByRecursion (IsBelow p) rest
  lower p [] reached walk = tt
  lower p (q ∷ rest) reached walk =
      let first : IsBelow p q = falls p.switch q.switch (record { place = p; next = q; on_walk = reached; goes = walk.0; from_is = refl; to_is = refl }) in
      (first, each_weaker (IsBelow q) (IsBelow p) (λ x h. omega arith) rest (lower q rest (reached_more (MayGo u k dst) entry p q reached walk.0) walk.1))

  not_again : (p : Place) (rest : List Place) → AllByRecursion (IsBelow p) rest → ¬ IsIn p.switch (map (λ q. q.switch) rest)
  not_again p [] below i = i
  not_again p (q ∷ rest) below (inl e) = let same = ap (number_of numbers) e in let less = below.0 in omega arith
  not_again p (q ∷ rest) below (inr i) = not_again p rest below.1 i

  distinct_from : (p : Place) (rest : List Place) → IsOnMixedWalk u k dst entry p → IsWalk (MayGo u k dst) p rest → IsDistinct (switches_along p rest)
  distinct_from p [] reached walk = (λ i. i, tt)
  distinct_from p (q ∷ rest) reached walk =
      (not_again p (q ∷ rest) (lower p (q ∷ rest) reached walk), distinct_from q rest (reached_more (MayGo u k dst) entry p q reached walk.0) walk.1)

  pub distinct_walk : (rest : List Place) → IsMixedWalk u k dst entry rest → IsDistinct (switches_along entry rest)
  distinct_walk rest walk = distinct_from entry rest (reached_start (MayGo u k dst) entry) walk
