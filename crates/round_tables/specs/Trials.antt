-- Tables on which single changes are tried.
use Rattle.std.specs.Prelude.{◌≡◌, ℕ, ◌<◌, ◌≤◌, List, [], ◌∷◌, length}
use Rattle.net_base.specs.declared.ids.SwitchId.{SwitchId}
use Rattle.topology.specs.Networks.{Network, switch_count, capacity_of}
use Rattle.flow_rules.specs.Tables.{IsClear, rules_of_all}
use Rattle.flow_rules.specs.declared.rules.Rule.{Rule}
use Rattle.update_model.specs.Changes.{Applies}
use Rattle.update_model.specs.Mixtures.{Rollout, MayHold, need_of}
use Rattle.update_model.specs.declared.Change.{Change}
use Rattle.round_mix.specs.Prepared.{MixedState}
use Rattle.check_reasons.specs.Loaded.{AreLoaded}
use Rattle.round_tables.specs.PreparedTables.{PreparedState, IsMixed, limit_at, mix_at, rules_there}

-- the update of one round of one change
abbrev pub single : Network → List (List Rule) → Change → Rollout
single net tables c = record { net = net; old = tables; rounds = (c ∷ []) ∷ [] }

-- as a round of its own the change is clear in every mixture and within capacity at every switch
pub record HasRoomAlone (net : Network) (tables : List (List Rule)) (c : Change) : Type 0 where
  pub clear : (s : SwitchId) (mixed : List Rule) → MayHold (single net tables c) 0 s mixed → IsClear mixed
  pub fits : (s : SwitchId) → s.0 < switch_count net → need_of (single net tables c) 0 s ≤ capacity_of net s

-- what is prepared of each switch has room for so many entries at least
abbrev pub HaveRoom : List ℕ → List MixedState → Type 0
HaveRoom rooms mixes = (s : SwitchId) → limit_at rooms s ≤ (mix_at mixes s).room

-- each switch has a clear table within its capacity, and its limit says for how many entries what is prepared of it has room at least
pub record Fit (net : Network) (t : PreparedState) : Type 0 where
  pub tables : length t.tables ≡ switch_count net
  pub mixes : length t.mixes ≡ switch_count net
  pub limits : length t.limits ≡ switch_count net
  pub room : HaveRoom t.limits t.mixes
  pub fits : (s : SwitchId) → s.0 < switch_count net → length (rules_there t.tables s) ≤ capacity_of net s
  pub clear : (s : SwitchId) → IsClear (rules_there t.tables s)

-- no change is tried or taken: each switch is prepared for its table alone
pub record IsBetweenTrials (net : Network) (t : PreparedState) : Type 0 where
  pub none : t.round ≡ []
  pub fit : Fit net t
  pub alone : (s : SwitchId) → s.0 < switch_count net → IsMixed (rules_there t.tables s) [] (mix_at t.mixes s)

-- a change is tried: each switch is prepared for it as a round of its own, which is clear and within capacity
pub record IsTrying (net : Network) (c : Change) (t : PreparedState) : Type 0 where
  pub none : t.round ≡ []
  pub fit : Fit net t
  pub applies : Applies (rules_of_all t.tables) c
  pub stands : HasRoomAlone net (rules_of_all t.tables) c
  pub loaded : AreLoaded (single net (rules_of_all t.tables) c) 0 t.mixes
