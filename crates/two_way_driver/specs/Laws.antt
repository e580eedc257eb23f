-- What holds of every driver that comes about by calls.
use Rattle.std.specs.Prelude.{◌≡◌, ◌⊎◌, ◌<◌, ℕ, suc, Bool, false, List, [], ◌∷◌, length, filter_map, slice_get, slice_index_or, is_none, if◌then◌else◌, Option, Some, None}
use Rattle.net_base.specs.declared.ids.SwitchId.{SwitchId}
use Rattle.topology.specs.Networks.{Network, switch_count}
use Rattle.flow_rules.specs.declared.rules.Rule.{Rule}
use Rattle.update_model.specs.Changes.{switch_of, round_after}
use Rattle.update_model.specs.Mixtures.{Rollout}
use Rattle.update_model.specs.declared.Change.{Change}
use Rattle.update_model.specs.declared.Event.TheVariants as event
use Rattle.update_model.specs.declared.Phase.{Phase}
use Rattle.update_model.specs.declared.Phase.TheVariants as phase
use Rattle.law_two_way_runs.specs.States.{TwoWayEvent}
use Rattle.law_two_way_runs.specs.States as two_way
use Rattle.law_two_way_runs.specs.Runs.{IsTwoWayRun, state_after_two_way}
use Rattle.switch_session.specs.Fronts.{front_of}
use Rattle.switch_session.specs.Channels.{ChannelState, is_failed}
use Rattle.switch_session.specs.declared.fronts.Front.TheVariants.{Short}
use Rattle.two_way_driver.specs.PeerStates.{PeerState}
use Rattle.two_way_driver.specs.Drivers.{DriverState, peer_at, first_driver}
use Rattle.two_way_driver.specs.Calls.{DriverView, start_fault, back_fault, started_view, turned_view, reopened_view, fed_view, dead_view}
use Rattle.two_way_driver.specs.declared.Stage.{Stage}
use Rattle.two_way_driver.specs.declared.Stage.TheVariants.{Settled, Onward, Undone}
use Rattle.two_way_driver.specs.declared.DriverEvent.{DriverEvent}
use Rattle.two_way_driver.specs.declared.DriverEvent.TheVariants as logged
use Rattle.two_way_driver.specs.declared.DriverOutput.{DriverOutput}
use Rattle.two_way_driver.specs.declared.DriverOutput.TheVariants.{Send, Failed, Log}

-- a call: the next round is to start, the update is to turn back, a session is opened again, bytes come from a switch, or a switch died
pub data Call : Type 0 where
  Start : Call
  Back : Call
  Reopen : SwitchId → Call
  Feed : SwitchId → List ℕ → Call
  Dead : SwitchId → Call

-- a switch of a call is one of the network
abbrev pub IsCall : Network → Call → Type 0
IsCall net Start = Unit {0}
IsCall net Back = Unit {0}
IsCall net (Reopen s) = s.0 < switch_count net
IsCall net (Feed s bytes) = s.0 < switch_count net
IsCall net (Dead s) = s.0 < switch_count net

-- a driver after a call; one that is refused leaves it as it was
abbrev pub after_call : DriverView → Call → DriverView
after_call v Start = if is_none (start_fault v) then started_view v else v
after_call v Back = if is_none (back_fault v) then turned_view v else v
after_call v (Reopen s) = reopened_view s v
after_call v (Feed s bytes) = fed_view s bytes v
after_call v (Dead s) = dead_view s v

-- a driver after calls
abbrev pub after_calls : DriverView → List Call → DriverView
after_calls v [] = v
after_calls v (c ∷ calls) = after_calls (after_call v c) calls

-- the driver that was made and then called
abbrev pub driver_after : Network → List (List Change) → List (List Change) → List Call → DriverView
driver_after net rounds inverses calls =
    after_calls (record { net = net; rounds = rounds; inverses = inverses; state = first_driver net }) calls

-- the event of the run that an event is
abbrev pub event_of : DriverEvent → TwoWayEvent
event_of logged.Start = two_way.Onward event.Start
event_of (logged.Change i) = two_way.Onward (event.Change i)
event_of logged.Settle = two_way.Onward event.Settle
event_of logged.Back = two_way.Back
event_of (logged.Undo i) = two_way.Undo i
event_of logged.SettleBack = two_way.SettleBack

abbrev pub event_in : DriverOutput → Option TwoWayEvent
event_in (Send s text) = None
event_in (Failed s cause) = None
event_in (Log e) = Some (event_of e)

-- the events among what was said, in order
abbrev pub events_in : List DriverOutput → List TwoWayEvent
events_in said = filter_map event_in said

-- the phase of a stage: a round that is taken back runs too
abbrev pub phase_of : Stage → Phase
phase_of (Settled k) = phase.Settled k
phase_of (Onward k) = phase.Running (suc k)
phase_of (Undone k) = phase.Running (suc k)

-- each change of a round is in force where the changes of its switch are
abbrev pub InForceBySwitch : List Change → List Bool → List Bool → Type 0
InForceBySwitch round at_switches in_force =
    (i : ℕ) (c : Change) → slice_get round i ≡ Some c → slice_get in_force i ≡ Some (slice_index_or at_switches (switch_of c).0 false)

-- the flags of the running round
abbrev pub InForceAs : List (List Change) → Stage → List Bool → List Bool → Type 0
InForceAs rounds (Settled k) at_switches in_force = Unit {0}
InForceAs rounds (Onward k) at_switches in_force = InForceBySwitch (round_after k rounds) at_switches in_force
InForceAs rounds (Undone k) at_switches in_force = InForceBySwitch (round_after k rounds) at_switches in_force

-- rounds over a network, from these tables on
abbrev pub rollout_of : Network → List (List Rule) → List (List Change) → Rollout
rollout_of net old rounds = record { net = net; old = old; rounds = rounds }

-- the events that a driver said are a run, without packets, and it leads to what the driver keeps
pub record SaysRun (u : Rollout) (d : DriverState) : Type 0 where
  pub run : IsTwoWayRun u (events_in d.said)
  pub phase : (state_after_two_way u (events_in d.said)).phase ≡ phase_of d.stage
  pub no_packets : (state_after_two_way u (events_in d.said)).packets ≡ []
  pub in_force : InForceAs u.rounds d.stage d.in_force (state_after_two_way u (events_in d.said)).in_force

-- no barrier request waits for an answer of the switch: none of the running round, and none that was sent on this session
abbrev pub IsFree : PeerState → Type 0
IsFree p = (p.asked ≡ None) × (p.channel.outstanding ≡ None) × (p.behind ≡ None)

abbrev pub AllAreFree : DriverState → Type 0
AllAreFree d = (s : SwitchId) → s.0 < length d.peers → IsFree (peer_at d s)

-- a round is begun, in either way, only where no barrier request waits for an answer; besides that a round that is carried out may be turned
pub record BeginsAnswered (v : DriverView) : Type 0 where
  pub start : start_fault v ≡ None → AllAreFree v.state
  pub back : back_fault v ≡ None → AllAreFree v.state ⊎ ((k : ℕ) × (v.state.stage ≡ Onward k))

-- a session that hasn't failed, with less than a message unread
pub record IsQuiet (channel : ChannelState) : Type 0 where
  pub going : is_failed channel.session ≡ false
  pub short : front_of channel.unread ≡ Short

-- a channel is as another but for what was sent
pub record KeepsAllButSent (after kept : ChannelState) : Type 0 where
  pub session : kept.session ≡ after.session
  pub unread : kept.unread ≡ after.unread
  pub outstanding : kept.outstanding ≡ after.outstanding
