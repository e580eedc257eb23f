-- What makes the rounds of an update unsound, and the first of it.
use Rattle.std.specs.Prelude.{◌≡◌, ℕ, suc, ◌<◌, length}
use Rattle.net_base.specs.declared.ids.SwitchId.{SwitchId}
use Rattle.update_model.specs.Mixtures.{Rollout}
use Rattle.check_reasons.specs.Ranks.{IsBefore, rank_of}
use Rattle.check_reasons.specs.Reasons.{IsBadChange, IsUnclear}
use Rattle.check_reasons.specs.declared.reason.Reason.{Reason}
use Rattle.check_reasons.specs.declared.reason.Reason.TheVariants.{BadChange, Ambiguous}
use Rattle.round_tables.specs.Loading.{IsFirstBadChange, IsFirstUnclear}
use Rattle.round_tables.specs.declared.sound.SoundFault.{SoundFault}
use Rattle.round_tables.specs.declared.sound.SoundFault.TheVariants as fault

-- a reason that the rounds alone give: a bad change, or a switch with a mixture that isn't clear
pub data IsRoundReason (u : Rollout) : Reason → Type 0 where
  bad_change : (k i : ℕ) (s : SwitchId) → IsBadChange u k i s → IsRoundReason u (BadChange (suc k) s i)
  ambiguous : (k : ℕ) (s : SwitchId) → k < length u.rounds → IsUnclear u k s → IsRoundReason u (Ambiguous (suc k) s)

-- the first such reason: by round, then bad changes before switches that aren't clear, then by switch, then by change
pub record IsFirstRoundReason (u : Rollout) (reason : Reason) : Type 0 where
  pub holds : IsRoundReason u reason
  pub first : (other : Reason) → IsRoundReason u other → ¬ IsBefore (rank_of 0 other) (rank_of 0 reason)

-- what a fault says: the first reason; of want of memory nothing
abbrev pub IsFault : Rollout → SoundFault → Type 0
IsFault u (fault.BadChange round s i) = IsFirstRoundReason u (BadChange round s i)
IsFault u (fault.Ambiguous round s) = IsFirstRoundReason u (Ambiguous round s)
IsFault u fault.Memory = Unit {0}

-- what a fault of round k says: the round's first fault
abbrev pub IsFaultIn : Rollout → ℕ → SoundFault → Type 0
IsFaultIn u k (fault.BadChange round s i) = (round ≡ suc k) × IsFirstBadChange u k s i
IsFaultIn u k (fault.Ambiguous round s) = (round ≡ suc k) × IsFirstUnclear u k s
IsFaultIn u k fault.Memory = Unit {0}
