-- What stands while switches are prepared for changes, one change after the other.
use Rattle.std.specs.Prelude.{◌≢◌, ℕ, ◌<◌, ◌≤◌, List, ◌∷◌, ◌++◌, [], length, IsSomeAnd}
use Rattle.net_base.specs.declared.ids.SwitchId.{SwitchId}
use Rattle.topology.specs.Networks.{Network, switch_count, capacity_of}
use Rattle.flow_rules.specs.Tables.{rules_at, rules_of_all}
use Rattle.flow_rules.specs.declared.rules.Rule.{Rule}
use Rattle.update_model.specs.Changes.{changes_at, switch_of}
use Rattle.update_model.specs.Mixtures.{entries_needed}
use Rattle.update_model.specs.declared.Change.{Change}
use Rattle.round_mix.specs.Prepared.{AreClear, AreGood, MixedState}
use Rattle.round_tables.specs.PreparedTables.{PreparedState, IsMixed, mix_at, rules_there}
use Rattle.round_tables.specs.Trials.{Fit}

-- each of the first n switches is prepared for those of the changes that are there
abbrev pub AreMixed : ℕ → List (List Rule) → List Change → List MixedState → Type 0
AreMixed n tables changes mixes = (s : SwitchId) → s.0 < n → IsMixed (rules_at tables s) (changes_at s changes) (mix_at mixes s)

-- the tables fit, and each switch is prepared for those of the changes that are there
pub record AreSwitchesReady (net : Network) (changes : List Change) (t : PreparedState) : Type 0 where
  pub fit : Fit net t
  pub each : AreMixed (switch_count net) (rules_of_all t.tables) changes t.mixes

-- so it is with each switch but this one
pub record AreReadyBeside (net : Network) (s : SwitchId) (changes : List Change) (t : PreparedState) : Type 0 where
  pub fit : Fit net t
  pub within : s.0 < switch_count net
  pub others : (o : SwitchId) → o.0 < switch_count net → o.0 ≢ s.0 → IsMixed (rules_there t.tables o) (changes_at o changes) (mix_at t.mixes o)

-- what is prepared has room for one entry more
abbrev pub HasOneMore : MixedState → Type 0
HasOneMore mixed = IsSomeAnd mixed.prepared (λ marks. length marks < mixed.room)

-- the changes of one table of a capacity can be made in any order: they are good, each mixture is clear, and the need is within capacity
pub record FitTable (rules : List Rule) (changes : List Change) (capacity : ℕ) : Type 0 where
  pub good : AreGood rules changes
  pub clear : AreClear rules changes
  pub fits : entries_needed rules changes ≤ capacity

-- the changes that are taken at the switch of a change, and that one behind them
abbrev pub taken_and : PreparedState → Change → List Change
taken_and t c = changes_at (switch_of c) t.round ++ c ∷ []

-- a change is begun beside those that are taken: its switch is prepared for it too, and they fit its table together
pub record IsBegun (net : Network) (c : Change) (t : PreparedState) : Type 0 where
  pub beside : AreReadyBeside net (switch_of c) t.round t
  pub here : IsMixed (rules_there t.tables (switch_of c)) (taken_and t c) (mix_at t.mixes (switch_of c))
  pub fits : entries_needed (rules_there t.tables (switch_of c)) (taken_and t c) ≤ capacity_of net (switch_of c)
