-- A driver: what a controller sends to each switch, and the log of events that it makes of what comes.
use Rattle.std.specs.Prelude.{ℕ, suc, ◌==◌, ◌&&◌, not, Bool, if◌then◌else◌, List, [], ◌∷◌, ◌++◌, length, find, replicate, flat_map, slice_set, slice_index_or, Option, Some, None, is_some, is_none}
use Rattle.std.specs.List.{list_all}
use Rattle.std.specs.Option.{option_map, option_map_or}
use Rattle.net_base.specs.declared.ids.SwitchId.{SwitchId}
use Rattle.topology.specs.Networks.{Network, switch_count}
use Rattle.update_model.specs.Changes.{switch_of, round_after}
use Rattle.update_model.specs.States.{settled_count, phase_after_settle}
use Rattle.update_model.specs.Worlds.{running_round}
use Rattle.update_model.specs.declared.Change.{Change}
use Rattle.update_model.specs.declared.Event.{Event}
use Rattle.update_model.specs.declared.Event.TheVariants as event
use Rattle.update_model.specs.declared.Phase.{Phase}
use Rattle.update_model.specs.declared.Phase.TheVariants.{Settled, Running}
use Rattle.openflow10.specs.Messages.{wire_text}
use Rattle.openflow10.specs.declared.Message.{Message}
use Rattle.openflow10.specs.declared.Message.TheVariants.{Flow, BarrierRequest, BarrierReply}
use Rattle.round_messages.specs.Requests.{switch_numbered, switches_changed, sent_in}
use Rattle.round_messages.specs.ToSwitch.{messages_to}
use Rattle.switch_session.specs.Channels.{ChannelState, first_channel, is_open, after_request, after_bytes}
use Rattle.update_driver.specs.declared.StartFault.{StartFault}
use Rattle.update_driver.specs.declared.StartFault.TheVariants as fault

-- a driver: its phase, its log, and the channel to each switch
pub record DriverState : Type 0 where
  pub phase : Phase
  pub log : List Event
  pub channels : List ChannelState

-- a driver at the beginning: no round is settled, and each switch was sent HELLO
abbrev pub first_driver : Network → DriverState
first_driver net = record { phase = Settled 0; log = []; channels = replicate (switch_count net) first_channel }

-- the channel to a switch
abbrev pub channel_at : DriverState → SwitchId → ChannelState
channel_at d s = slice_index_or d.channels s.0 first_channel

-- a driver with another channel to a switch
abbrev pub with_channel : SwitchId → ChannelState → DriverState → DriverState
with_channel s channel d = record d { channels = slice_set d.channels s.0 channel }

-- no barrier is outstanding
abbrev pub none_outstanding : List ChannelState → Bool
none_outstanding channels = list_all (λ c. is_none c.outstanding) channels

-- a driver that settles the running round, if no barrier is outstanding
abbrev pub settled_if_answered : DriverState → DriverState
settled_if_answered d = if none_outstanding d.channels then record d { phase = phase_after_settle d.phase; log = d.log ++ event.Settle ∷ [] } else d

-- ---- bytes come

-- the events of a switch's changes among changes, ascending, where the first change has number i
abbrev pub change_events : SwitchId → ℕ → List Change → List Event
change_events s i [] = []
change_events s i (c ∷ changes) = if (switch_of c).0 == s.0 then event.Change i ∷ change_events s (suc i) changes else change_events s (suc i) changes

-- the barrier of a switch was answered, so its changes are made
abbrev pub made_driver : List (List Change) → SwitchId → DriverState → DriverState
made_driver rounds s d = settled_if_answered (record d { log = d.log ++ change_events s 0 (running_round d.phase rounds) })

-- whether a barrier that was outstanding isn't any more
abbrev pub is_answered : Option ℕ → Option ℕ → Bool
is_answered before after = is_some before && is_none after

-- a driver after bytes from a switch made this of its channel
abbrev pub heard_driver : List (List Change) → SwitchId → ChannelState → DriverState → DriverState
heard_driver rounds s channel d =
    if is_answered (channel_at d s).outstanding channel.outstanding then made_driver rounds s (with_channel s channel d)
    else with_channel s channel d

-- a driver after bytes come from a switch
abbrev pub driver_after_bytes : List (List Change) → SwitchId → List ℕ → DriverState → DriverState
driver_after_bytes rounds s bytes d = heard_driver rounds s (after_bytes bytes (channel_at d s)) d

-- ---- a round starts

-- the messages of `emit` to a switch in round k
abbrev pub messages_for : Network → List (List Change) → ℕ → SwitchId → List Message
messages_for net rounds k s = messages_to k s (sent_in net rounds)

-- the xid of the barrier request among messages
abbrev pub barrier_in : List Message → Option ℕ
barrier_in [] = None
barrier_in (Flow m ∷ messages) = barrier_in messages
barrier_in (BarrierRequest xid ∷ messages) = Some xid
barrier_in (BarrierReply xid ∷ messages) = barrier_in messages

-- a channel after messages that end with a barrier request were sent; where there are none, nothing was
abbrev pub told_channel : List Message → ChannelState → ChannelState
told_channel messages channel = option_map_or (λ xid. after_request (flat_map wire_text messages) xid channel) (barrier_in messages) channel

-- the channels to the switches from number n on, after each switch was sent its messages of round k
abbrev pub told_all : Network → List (List Change) → ℕ → ℕ → List ChannelState → List ChannelState
told_all net rounds k n [] = []
told_all net rounds k n (c ∷ channels) = told_channel (messages_for net rounds k (switch_numbered n)) c ∷ told_all net rounds k (suc n) channels

-- the phase after the next round starts
abbrev pub started_phase : Phase → Phase
started_phase phase = Running (suc (settled_count phase))

-- a driver after the next round starts; a round without changes is settled at once
abbrev pub started_driver : Network → List (List Change) → DriverState → DriverState
started_driver net rounds d =
    settled_if_answered (record d {
      phase = started_phase d.phase;
      log = d.log ++ event.Start ∷ [];
      channels = told_all net rounds (settled_count d.phase) 0 d.channels;
    })

-- the first of the switches whose session isn't open
abbrev pub first_not_open : DriverState → List SwitchId → Option SwitchId
first_not_open d switches = find (λ s. not (is_open (channel_at d s).session)) switches

-- why the next round may not start in a phase, if it may not: a round is running; all are settled; or a switch with a change in it
-- has no open session, the least one
abbrev pub start_fault_in : Network → List (List Change) → DriverState → Phase → Option StartFault
start_fault_in net rounds d (Running k) = Some fault.Running
start_fault_in net rounds d (Settled k) =
    if k == length rounds then Some fault.Finished
    else option_map fault.NotOpen (first_not_open d (switches_changed net (round_after k rounds)))

abbrev pub start_fault : Network → List (List Change) → DriverState → Option StartFault
start_fault net rounds d = start_fault_in net rounds d d.phase
