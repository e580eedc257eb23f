-- What holds of every network on the wire whose plan is certified.
use Rattle.std.specs.Prelude.{◌≡◌, suc, ◌<◌, Bool, List, [], None, false, ◌≤◌, length, true, ◌∷◌, map, not, ◌++◌}
use Rattle.std.specs.List.{AllByRecursion}
use Rattle.net_base.specs.Members.{IsSameSet}
use Rattle.net_base.specs.declared.ids.SwitchId.{SwitchId}
use Rattle.topology.specs.Networks.{switch_count, capacity_of}
use Rattle.flow_rules.specs.Tables.{rules_at}
use Rattle.flow_rules.specs.declared.rules.Rule.{Rule}
use Rattle.update_model.specs.Changes.{changes_at, round_after}
use Rattle.update_model.specs.Mixtures.{Rollout, IsMixture, tables_before}
use Rattle.update_model.specs.declared.Change.{Change}
use Rattle.certificates.specs.Consistent.{IsConsistentPacket}
use Rattle.certificates.specs.Updates.{Update}
use Rattle.switch_session.specs.declared.Session.TheVariants.{Open}
use Rattle.two_way_driver.specs.PeerStates.{PeerState}
use Rattle.two_way_driver.specs.Drivers.{peer_at}
use Rattle.two_way_driver.specs.declared.Stage.{Stage}
use Rattle.two_way_driver.specs.declared.Stage.TheVariants.{Settled, Onward, Undone}
use Rattle.law_wire.specs.Network.{WireState, WireEvent, IsWireRun, state_on_wire, driver_at, stage_at, IsUnderWayIn, is_gone, logged_state}
use Rattle.law_two_way_runs.specs.Inverse.{inverse_round}

-- each packet is consistent, in every state that comes about on the wire
abbrev pub IsWireConsistent : Update → List (List Change) → Bool → Type 0
IsWireConsistent u rounds two_phase =
    let by : Rollout = record { net = u.net; old = u.old; rounds = rounds } in
    (events : List WireEvent) → IsWireRun by events
    → AllByRecursion (IsConsistentPacket u two_phase) (state_on_wire by events).packets

-- what the driver keeps of a switch
abbrev pub kept_of_switch : Rollout → WireState → SwitchId → PeerState
kept_of_switch u st s = peer_at (driver_at u st.calls).state s

-- a switch has a table of the mixtures of the running round; where none runs, that before the next round
abbrev pub IsStageTable : Rollout → Stage → SwitchId → List Rule → Type 0
IsStageTable u (Settled k) s rules = IsSameSet rules (rules_at (tables_before u k) s)
IsStageTable u (Onward k) s rules = IsMixture (rules_at (tables_before u k) s) (changes_at s (round_after k u.rounds)) rules
IsStageTable u (Undone k) s rules = IsMixture (rules_at (tables_before u k) s) (changes_at s (round_after k u.rounds)) rules

-- those of the changes of a round whose flag is on, or off
abbrev pub changes_on : List Bool → List Change → List Change
changes_on [] changes = []
changes_on (b ∷ flags) [] = []
changes_on (true ∷ flags) (c ∷ changes) = c ∷ changes_on flags changes
changes_on (false ∷ flags) (c ∷ changes) = changes_on flags changes

abbrev pub changes_off : List Bool → List Change → List Change
changes_off flags changes = changes_on (map not flags) changes

-- what a switch may have made besides what the events say: of a round that goes forward those of its changes that aren't in force by them; of one that is taken back the
-- inverses of those that are, and those that aren't
abbrev pub pending_by : Rollout → Stage → List Bool → List Change
pending_by u (Settled k) in_force = []
pending_by u (Onward k) in_force = changes_off in_force (round_after k u.rounds)
pending_by u (Undone k) in_force = inverse_round (tables_before u k) (changes_on in_force (round_after k u.rounds)) ++ changes_off in_force (round_after k u.rounds)

-- the table to which a switch is to come: that behind the running round, or before it where it is taken back
abbrev pub goal_of : Rollout → Stage → SwitchId → List Rule
goal_of u (Settled k) s = rules_at (tables_before u k) s
goal_of u (Onward k) s = rules_at (tables_before u (suc k)) s
goal_of u (Undone k) s = rules_at (tables_before u k) s

-- the tables of a state on the wire, of switches that aren't dead: each is one of the running round, and that to which the events of all blocks lead with some of what is
-- pending made besides; and where the driver waits for no answer of a switch, so that it took
-- the reply to the last barrier request, the switch has all that was asked for before that request. Each is within its switch's capacity
pub record HasTables (u : Rollout) (st : WireState) : Type 0 where
  pub mixed : (s : SwitchId) → s.0 < switch_count u.net → is_gone u st s ≡ false → IsStageTable u (stage_at u st.calls) s (rules_at st.tables s)
  pub answered : (s : SwitchId) → s.0 < switch_count u.net → is_gone u st s ≡ false → (kept_of_switch u st s).asked ≡ None → IsSameSet (rules_at st.tables s) (goal_of u (stage_at u st.calls) s)
  pub logged : (s : SwitchId) → s.0 < switch_count u.net → is_gone u st s ≡ false
      → IsMixture (rules_at (logged_state u st.calls).tables s) (changes_at s (pending_by u (stage_at u st.calls) (logged_state u st.calls).in_force)) (rules_at st.tables s)
  pub fits : (s : SwitchId) → s.0 < switch_count u.net → is_gone u st s ≡ false → length (rules_at st.tables s) ≤ capacity_of u.net s

-- in every state that comes about on the wire
abbrev pub AreTablesOnWire : Rollout → Type 0
AreTablesOnWire u = (events : List WireEvent) → IsWireRun u events → HasTables u (state_on_wire u events)

-- nothing is left to do for a switch: its session is open, and its boxes are empty
pub record IsDone (u : Rollout) (st : WireState) (s : SwitchId) : Type 0 where
  pub session : (kept_of_switch u st s).channel.session ≡ Open
  pub inbox : st.inbox s ≡ []
  pub outbox : st.outbox s ≡ []

-- where nothing is left to do for any switch that isn't dead, no round runs
abbrev pub IsNeverStuck : Rollout → Type 0
IsNeverStuck u =
    (events : List WireEvent) → IsWireRun u events
    → ((s : SwitchId) → s.0 < switch_count u.net → is_gone u (state_on_wire u events) s ≡ false → IsDone u (state_on_wire u events) s)
    → ¬ IsUnderWayIn (stage_at u (state_on_wire u events).calls)
