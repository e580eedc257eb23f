-- What holds of runs both ways.
use Rattle.std.specs.Prelude.{ℕ, ◌≤◌, zero, suc, Bool, List, length, map, not}
use Rattle.std.specs.List.{AllByRecursion}
use Rattle.net_base.specs.Members.{IsSameSet}
use Rattle.net_base.specs.declared.ids.SwitchId.{SwitchId}
use Rattle.flow_rules.specs.Tables.{rules_at}
use Rattle.flow_rules.specs.declared.rules.Rule.{Rule}
use Rattle.update_model.specs.Changes.{switch_of, Applies, tables_after_change}
use Rattle.update_model.specs.Mixtures.{Rollout, MayHold, tables_before}
use Rattle.update_model.specs.OneRound.{WalkedOneRound}
use Rattle.update_model.specs.States.{State}
use Rattle.update_model.specs.declared.Change.{Change}
use Rattle.update_model.specs.declared.Packet.{Packet}
use Rattle.update_model.specs.declared.Phase.{Phase}
use Rattle.update_model.specs.declared.Phase.TheVariants.{Settled, Running}
use Rattle.certificates.specs.Consistent.{IsConsistentPacket}
use Rattle.certificates.specs.Updates.{Update}
use Rattle.update_model.specs.declared.Event.{Event}
use Rattle.law_two_way_runs.specs.States.{TwoWayEvent, TwoWayState, Onward, tables_undone}
use Rattle.law_two_way_runs.specs.Inverse.{inverse_of}
use Rattle.law_two_way_runs.specs.Runs.{IsTwoWayRun, state_after_two_way}

-- events of an update that is never turned back
abbrev pub onward_events : List Event → List TwoWayEvent
onward_events events = map Onward events

-- what a run that is never turned back sees of a state: a change is pending where it isn't in force
abbrev pub onward_state : TwoWayState → State
onward_state st = record { phase = st.phase; tables = st.tables; pending = map not st.in_force; packets = st.packets }

-- the tables are, as sets, those before the next round, or while a round runs each switch has one of that round's mixtures
abbrev pub TablesAreMixtures : Rollout → Phase → (tables : SwitchId → List Rule) → Type 0
TablesAreMixtures u (Settled k) tables = (k ≤ length u.rounds) × ((s : SwitchId) → IsSameSet (tables s) (rules_at (tables_before u k) s))
TablesAreMixtures u (Running zero) tables = ⊥
TablesAreMixtures u (Running (suc k)) tables = (suc k ≤ length u.rounds) × ((s : SwitchId) → MayHold u k s (tables s))

-- the packet walked through the mixtures of round k alone
abbrev pub WalkedRound : Rollout → ℕ → Packet → Type 0
WalkedRound u k p = WalkedOneRound u (record p { born = k })

-- there is one round through whose mixtures alone the packet walked
abbrev pub WalkedSomeRound : Rollout → Packet → Type 0
WalkedSomeRound u p = (k : ℕ) × (k ≤ length u.rounds) × WalkedRound u k p

-- each packet is consistent, in every state of every run both ways of these rounds
abbrev pub IsTwoWayConsistent : Update → List (List Change) → Bool → Type 0
IsTwoWayConsistent u rounds two_phase =
    let by : Rollout = record { net = u.net; old = u.old; rounds = rounds } in
    (events : List TwoWayEvent) → IsTwoWayRun by events
    → AllByRecursion (IsConsistentPacket u two_phase) (state_after_two_way by events).packets

-- a change of round k is taken back by its inverse: that applies, and leaves, as sets, the tables with the entry of the change as it was before the round
pub record IsTakenBack (u : Rollout) (k : ℕ) (c : Change) (tables : List (List Rule)) : Type 0 where
  pub applies : Applies tables (inverse_of (rules_at (tables_before u k) (switch_of c)) c)
  pub leaves : (s : SwitchId)
      → IsSameSet (rules_at (tables_after_change (inverse_of (rules_at (tables_before u k) (switch_of c)) c) tables) s) (rules_at (tables_undone u k c tables) s)
