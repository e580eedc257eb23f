-- Where no change of a round covers an address, a walk that breaks in it breaks in the round before.
use Rattle.std.proofs.Common.{◌≡◌, ℕ, suc, ◌<◌, false, List, length, inl, inr, arith}
use Rattle.net_base.specs.Walks.{end_of}
use Rattle.net_base.specs.declared.ids.Place.{Place}
use Rattle.net_base.proofs.WalkLaws.{walk_weaker}
use Rattle.path_walk.specs.declared.Outcome.{Outcome}
use Rattle.demands.specs.Duties.{PacketDuties}
use Rattle.update_model.specs.Changes.{round_after}
use Rattle.update_model.specs.Mixtures.{Rollout, IsPossible, MayGo, AreGoodRounds, AreClearRounds}
use Rattle.check_reasons.specs.Touched.{touches}
use Rattle.check_reasons.proofs.TouchLaws.{possible_before}
use Rattle.breaking_walks.specs.Breaking.{Breaks, HasBreakingWalk}

module _ (u : Rollout) (good : AreGoodRounds u) (clear : AreClearRounds u) (k dst : ℕ) (less : suc k < length u.rounds) (off : touches (round_after (suc k) u.rounds) dst ≡ false) where
  was_possible : (place : Place) (found : Outcome) → IsPossible u (suc k) dst place found → IsPossible u k dst place found
  was_possible = possible_before u k dst less (good k (omega arith)) (good (suc k) less) (clear (suc k) less) off

  breaks_before : (entry : Place) (duties : PacketDuties) (rest : List Place) → Breaks u (suc k) dst entry duties rest → Breaks u k dst entry duties rest
  breaks_before entry duties rest (inl again) = inl again
  breaks_before entry duties rest (inr (inl unmet)) =
      inr (inl (record { port = unmet.port; vlan = unmet.vlan; leaves = was_possible (end_of entry rest) _ unmet.leaves; misses = unmet.misses }))
  breaks_before entry duties rest (inr (inr drops)) = inr (inr (drops.0, was_possible (end_of entry rest) _ drops.1))

  pub has_before : (entry : Place) (duties : PacketDuties) → HasBreakingWalk u (suc k) dst entry duties → HasBreakingWalk u k dst entry duties
  has_before entry duties h = record {
    rest = h.rest;
    walk = walk_weaker (MayGo u (suc k) dst) (MayGo u k dst) (λ place next goes. was_possible place _ goes) entry h.rest h.walk;
    breaks = breaks_before entry duties h.rest h.breaks;
  }
