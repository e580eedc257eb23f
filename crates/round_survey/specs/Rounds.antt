-- A round of an update in which packets keep their VLANs, and the classes that are passed over.
use Rattle.std.specs.Prelude.{◌≡◌, ℕ, ◌<◌, ◌%◌, Bool, false, List, length, slice_get, Some}
use Rattle.dest_classes.specs.declared.Class.{Class}
use Rattle.update_model.specs.Changes.{round_after}
use Rattle.update_model.specs.Mixtures.{AreGoodRounds, AreClearRounds}
use Rattle.check_reasons.specs.AtomMarks.{is_marked}
use Rattle.check_reasons.specs.Touched.{touches}
use Rattle.mixed_walks.specs.Walks.{IsRoundOf}
use Rattle.breaking_walks.specs.declared.round.PreparedRound.{PreparedRound}
pub use Rattle.breaking_walks.specs.Rounds.{round_rollout}

-- the switches are prepared for the round, in which packets keep their VLANs; the rounds of the update are good and clear
pub record IsPreparedRound (round : PreparedRound) : Type 0 where
  pub is : IsRoundOf round.net.now round.mixes.now (round_rollout round) round.number
  pub within : round.number < length round.rounds.now
  pub good : AreGoodRounds (round_rollout round)
  pub clear : AreClearRounds (round_rollout round)

-- of the classes whose atom isn't looked at no change of the round covers the address, and the round isn't the first
abbrev pub PassesOver : PreparedRound → List Class → List Bool → Type 0
PassesOver round classes looked =
    (n : ℕ) (class : Class) → slice_get classes n ≡ Some class → is_marked looked (n % length looked) ≡ false
    → (0 < round.number) × (touches (round_after round.number round.rounds.now) class.first ≡ false)
