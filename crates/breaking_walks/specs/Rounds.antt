-- A round of an update, prepared.
use Rattle.std.specs.Prelude.{◌≡◌, Some, IsSomeAnd, length, slice_get}
use Rattle.net_base.specs.declared.ids.SwitchId.{SwitchId}
use Rattle.topology.specs.Networks.{switch_count}
use Rattle.flow_rules.specs.Tables.{rules_at, rules_of_all}
use Rattle.update_model.specs.Changes.{changes_at, round_after}
use Rattle.update_model.specs.Mixtures.{Rollout, tables_before}
use Rattle.round_mix.specs.Prepared.{MixedState, IsPrepared}
use Rattle.breaking_walks.specs.declared.round.PreparedRound.{PreparedRound}

-- the update of a round
abbrev pub round_rollout : PreparedRound → Rollout
round_rollout round = record { net = round.net.now; old = rules_of_all round.old.now; rounds = round.rounds.now }

-- a switch is prepared for the round: for its table before it, and the changes there
abbrev pub IsPreparedFor : PreparedRound → SwitchId → MixedState → Type 0
IsPreparedFor round s mixed =
    IsSomeAnd mixed.prepared (IsPrepared (rules_at (tables_before (round_rollout round) round.number) s) (changes_at s (round_after round.number round.rounds.now)))

-- each switch of the network is
pub record SwitchesArePrepared (round : PreparedRound) : Type 0 where
  pub count : length round.mixes.now ≡ switch_count round.net.now
  pub each : (s : SwitchId) (mixed : MixedState) → slice_get round.mixes.now s.0 ≡ Some mixed → IsPreparedFor round s mixed
