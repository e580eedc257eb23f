-- The switches of a network, each prepared for a round.
use Rattle.std.specs.Prelude.{◌≡◌, ℕ, ◌≤◌, List, length, Some, slice_get}
use Rattle.net_base.specs.declared.ids.SwitchId.{SwitchId}
use Rattle.topology.specs.Networks.{switch_count}
use Rattle.flow_rules.specs.Tables.{rules_at}
use Rattle.update_model.specs.Changes.{changes_at, round_after}
use Rattle.update_model.specs.Mixtures.{Rollout, tables_before}
use Rattle.round_mix.specs.Prepared.{MixedState, IsPrepared}
use Rattle.round_mix.specs.declared.MarkedRule.{MarkedRule}

-- a switch is prepared for round k, with at most 8192 marked rules
pub record IsLoaded (u : Rollout) (k : ℕ) (s : SwitchId) (mixed : MixedState) : Type 0 where
  pub marks : List MarkedRule
  pub is : mixed.prepared ≡ Some marks
  pub prepared : IsPrepared (rules_at (tables_before u k) s) (changes_at s (round_after k u.rounds)) marks
  pub few : length marks ≤ 8192

-- each switch of the network is prepared for round k
pub record AreLoaded (u : Rollout) (k : ℕ) (mixes : List MixedState) : Type 0 where
  pub count : length mixes ≡ switch_count u.net
  pub each : (s : SwitchId) (mixed : MixedState) → slice_get mixes s.0 ≡ Some mixed → IsLoaded u k s mixed
