-- A driver that can turn back: what it keeps, and what each step says and leaves.
use Rattle.std.specs.Prelude.{ℕ, zero, suc, ◌==◌, ◌&&◌, ◌||◌, not, if◌then◌else◌, Bool, true, false, List, [], ◌∷◌, ◌++◌, length, map, flat_map, find, replicate, slice_set, slice_index_or, Option, Some, None, is_some, is_none}
use Rattle.std.specs.List.{list_all}
use Rattle.std.specs.Option.{option_map, option_map_or}
use Rattle.net_base.specs.declared.ids.SwitchId.{SwitchId}
use Rattle.topology.specs.Networks.{Network, switch_count}
use Rattle.update_model.specs.Changes.{switch_of, round_after}
use Rattle.update_model.specs.declared.Change.{Change}
use Rattle.round_messages.specs.Requests.{is_changed, switch_numbered, switches_changed}
use Rattle.switch_session.specs.Channels.{hello, is_open, after_byte}
use Rattle.turned_rounds.specs.Batches.{next_if, xid_behind, batch_of}
use Rattle.turned_rounds.specs.declared.outgoing.Outgoing.{Outgoing}
use Rattle.two_way_driver.specs.PeerStates.{PeerState}
use Rattle.two_way_driver.specs.Peers.{first_peer, heard_by, peer_after, asks, asks_again, answers, reopened_peer, dead_peer, settled_peer}
use Rattle.two_way_driver.specs.declared.Stage.{Stage}
use Rattle.two_way_driver.specs.declared.Stage.TheVariants.{Settled, Onward, Undone}
use Rattle.two_way_driver.specs.declared.DriverEvent.{DriverEvent}
use Rattle.two_way_driver.specs.declared.DriverEvent.TheVariants as logged
use Rattle.two_way_driver.specs.declared.DriverOutput.{DriverOutput}
use Rattle.two_way_driver.specs.declared.DriverOutput.TheVariants.{Send, Failed, Log}
use Rattle.two_way_driver.specs.declared.peers.ByteOutcome.{ByteOutcome}
use Rattle.two_way_driver.specs.declared.peers.ByteOutcome.TheVariants.{Nothing, Opened, Answered, Replied, Broke}
use Rattle.two_way_driver.specs.declared.faults.CallFault.{CallFault}
use Rattle.two_way_driver.specs.declared.faults.CallFault.TheVariants as fault

-- how far the update is, the xid of the first message of the running round in the way it goes, the xid of the next message, what is kept of each switch,
-- at which switches the changes of the running round are in force, and what was said
pub record DriverState : Type 0 where
  pub stage : Stage
  pub first : ℕ
  pub next : ℕ
  pub peers : List PeerState
  pub in_force : List Bool
  pub said : List DriverOutput

-- what is kept of a switch
abbrev pub peer_at : DriverState → SwitchId → PeerState
peer_at d s = slice_index_or d.peers s.0 first_peer

abbrev pub with_peer : SwitchId → PeerState → DriverState → DriverState
with_peer s p d = record d { peers = slice_set d.peers s.0 p }

-- a driver that says more
abbrev pub with_said : List DriverOutput → DriverState → DriverState
with_said words d = record d { said = d.said ++ words }

-- ---- messages

-- a message is said, or not
abbrev pub send_if : Bool → Outgoing → List DriverOutput
send_if wanted m = if wanted then Send m.switch m.text ∷ [] else []

-- those of messages that are wanted, in order
abbrev pub sends : (Outgoing → Bool) → List Outgoing → List DriverOutput
sends wanted ms = flat_map (λ m. send_if (wanted m) m) ms

-- a message is to a switch with an open session, or to a switch
abbrev pub is_to_open : List PeerState → Outgoing → Bool
is_to_open peers m = is_open (slice_index_or peers m.switch.0 first_peer).channel.session

abbrev pub is_to : SwitchId → Outgoing → Bool
is_to s m = m.switch.0 == s.0

-- a switch waits for the answer to a barrier request, if it has a change
abbrev pub asks_if : Bool → ℕ → PeerState → PeerState
asks_if changed x p = if changed then asks x p else p

-- the switches from number n on, each of which with a change in the round waits for the answer to its barrier request; the first of these has xid x
abbrev pub asked_from : ℕ → List Change → ℕ → List PeerState → List PeerState
asked_from x round n [] = []
asked_from x round n (p ∷ peers) =
    asks_if (is_changed round (switch_numbered n)) x p ∷ asked_from (next_if (is_changed round (switch_numbered n)) x) round (suc n) peers

-- a driver after a round begins to run in a way, which asks for these changes. To a switch without an open session its messages aren't sent now
unfoldable pub sent_out : Network → List Change → Stage → DriverState → DriverState
sent_out net changes stage d =
    let ms = batch_of net d.next changes in
    record d {
      stage = stage;
      first = d.next;
      next = xid_behind d.next (length ms);
      peers = asked_from (xid_behind d.next (length changes)) changes 0 d.peers;
      said = d.said ++ sends (is_to_open d.peers) ms;
    }

-- ---- events of changes

-- an event is said, or not
abbrev pub log_if : Bool → DriverEvent → List DriverOutput
log_if wanted event = if wanted then Log event ∷ [] else []

-- the events of those changes that are made, ascending, where the first change has number i
abbrev pub change_notes : (Change → Bool) → ℕ → List Change → List DriverOutput
change_notes wanted i [] = []
change_notes wanted i (c ∷ changes) = log_if (wanted c) (logged.Change i) ++ change_notes wanted (suc i) changes

-- the events of those changes that are taken back, descending
abbrev pub undo_notes : (Change → Bool) → ℕ → List Change → List DriverOutput
undo_notes wanted i [] = []
undo_notes wanted i (c ∷ changes) = undo_notes wanted (suc i) changes ++ log_if (wanted c) (logged.Undo i)

-- a change is one at a switch
abbrev pub is_change_at : SwitchId → Change → Bool
is_change_at s c = (switch_of c).0 == s.0

-- a change is one at a dead switch, and in force; or it isn't in force
abbrev pub is_dead_made : List PeerState → List Bool → Change → Bool
is_dead_made peers in_force c = (slice_index_or peers (switch_of c).0 first_peer).is_dead && slice_index_or in_force (switch_of c).0 false

abbrev pub is_dead_unmade : List PeerState → List Bool → Change → Bool
is_dead_unmade peers in_force c = (slice_index_or peers (switch_of c).0 first_peer).is_dead && not (slice_index_or in_force (switch_of c).0 false)

-- ---- settling

-- a driver whose running round, which has these changes, is settled: directly before that stand the events of dead switches
unfoldable pub settled_in : List Change → Stage → DriverState → DriverState
settled_in round (Settled k) d = d
settled_in round (Onward k) d =
    with_said (Log logged.Settle ∷ []) (with_said (change_notes (is_dead_unmade d.peers d.in_force) 0 round) (record d { stage = Settled (suc k); peers = map settled_peer d.peers }))
settled_in round (Undone k) d =
    with_said (Log logged.SettleBack ∷ []) (with_said (undo_notes (is_dead_made d.peers d.in_force) 0 round) (record d { stage = Settled k; peers = map settled_peer d.peers }))

-- no barrier request of the running round waits for its answer; a dead switch isn't waited for
abbrev pub all_answered : List PeerState → Bool
all_answered peers = list_all (λ p. is_none p.asked || p.is_dead) peers

-- a driver that settles the running round, which has these changes, if all its barrier requests are answered
unfoldable pub settled_if_answered : List Change → DriverState → DriverState
settled_if_answered round d = if all_answered d.peers then settled_in round d.stage d else d

-- ---- answers

-- the changes of a switch are made
unfoldable pub made_state : List Change → SwitchId → DriverState → DriverState
made_state round s d = record d { in_force = slice_set d.in_force s.0 true; said = d.said ++ change_notes (is_change_at s) 0 round }

-- the changes of a switch are taken back, if they are in force
unfoldable pub undone_state : List Change → SwitchId → DriverState → DriverState
undone_state round s d =
    if slice_index_or d.in_force s.0 false then record d { in_force = slice_set d.in_force s.0 false; said = d.said ++ undo_notes (is_change_at s) 0 round } else d

-- the last barrier request of a switch was answered, by how the round goes
abbrev pub carried_out : List Change → SwitchId → Stage → DriverState → DriverState
carried_out round s (Settled k) d = d
carried_out round s (Onward k) d = made_state round s d
carried_out round s (Undone k) d = undone_state round s d

-- the outstanding barrier request of a switch was answered: that of the round, behind which stands that of its turning; or the last one
unfoldable pub answered_state : List Change → SwitchId → DriverState → DriverState
answered_state round s d =
    let e = with_peer s (answers (peer_at d s)) d in
    if is_some (peer_at d s).behind then made_state round s e else settled_if_answered round (carried_out round s e.stage e)

-- ---- bytes come

-- the messages of the running round to a switch are sent again, with the same xids, that of its barrier request is x
abbrev pub sent_again : Network → List Change → SwitchId → ℕ → DriverState → DriverState
sent_again net changes s x d =
    record (with_peer s (asks_again x (peer_at d s)) d) { said = d.said ++ sends (is_to s) (batch_of net d.first changes) }

-- the session of a switch is open now: its messages are sent again, if they aren't answered
unfoldable pub opened_state : Network → List Change → SwitchId → DriverState → DriverState
opened_state net changes s d = option_map_or (λ x. sent_again net changes s x d) (peer_at d s).asked d

-- the changes of the running round
abbrev pub running_round : List (List Change) → Stage → List Change
running_round rounds (Settled k) = []
running_round rounds (Onward k) = round_after k rounds
running_round rounds (Undone k) = round_after k rounds

-- what the messages of the running round ask for, in the way it goes
abbrev pub asked_round : List (List Change) → List (List Change) → Stage → List Change
asked_round rounds inverses (Settled k) = []
asked_round rounds inverses (Onward k) = round_after k rounds
asked_round rounds inverses (Undone k) = round_after k inverses

-- a driver after this came of a byte from a switch
abbrev pub heard_state : Network → List (List Change) → List (List Change) → SwitchId → ByteOutcome → DriverState → DriverState
heard_state net rounds inverses s Nothing d = d
heard_state net rounds inverses s Opened d = opened_state net (asked_round rounds inverses d.stage) s d
heard_state net rounds inverses s Answered d = answered_state (running_round rounds d.stage) s d
heard_state net rounds inverses s (Replied text) d = with_said (Send s text ∷ []) d
heard_state net rounds inverses s (Broke cause) d = with_said (Failed s cause ∷ []) d

-- a driver after a byte from a switch that isn't dead
abbrev pub heard_byte : Network → List (List Change) → List (List Change) → SwitchId → ℕ → DriverState → DriverState
heard_byte net rounds inverses s b d =
    let before = peer_at d s in
    heard_state net rounds inverses s (heard_by before.channel (after_byte b before.channel)) (with_peer s (peer_after b before) d)

-- a driver after a byte from a switch; what comes from a dead one does nothing
unfoldable pub fed_byte : Network → List (List Change) → List (List Change) → SwitchId → ℕ → DriverState → DriverState
fed_byte net rounds inverses s b d = if (peer_at d s).is_dead then d else heard_byte net rounds inverses s b d

-- a driver after bytes from a switch, one after the other: so it makes no difference in which pieces they come
abbrev pub state_after_bytes : Network → List (List Change) → List (List Change) → SwitchId → List ℕ → DriverState → DriverState
state_after_bytes net rounds inverses s [] d = d
state_after_bytes net rounds inverses s (b ∷ bytes) d = state_after_bytes net rounds inverses s bytes (fed_byte net rounds inverses s b d)

-- ---- calls

-- a driver at the beginning: HELLO was sent to each switch, ascending
abbrev pub first_words : ℕ → ℕ → List DriverOutput
first_words n zero = []
first_words n (suc count) = Send (record { 0 = n }) hello ∷ first_words (suc n) count

abbrev pub first_driver : Network → DriverState
first_driver net = record {
  stage = Settled 0;
  first = 1;
  next = 1;
  peers = replicate (switch_count net) first_peer;
  in_force = replicate (switch_count net) false;
  said = first_words 0 (switch_count net);
}

-- a driver for whose running round all changes are in force, or none is
abbrev pub flagged_state : Bool → DriverState → DriverState
flagged_state b d = record d { in_force = replicate (length d.peers) b }

-- the session of a switch is open, or it is dead
abbrev pub is_open_or_dead : PeerState → Bool
is_open_or_dead p = is_open p.channel.session || p.is_dead

-- the first of the switches whose session isn't open; a dead one is passed over
abbrev pub first_not_open : List PeerState → List SwitchId → Option SwitchId
first_not_open peers switches = find (λ s. not (is_open_or_dead (slice_index_or peers s.0 first_peer))) switches

-- the next round starts
abbrev pub started_with : Network → List Change → ℕ → DriverState → DriverState
started_with net round k d = settled_if_answered round (sent_out net round (Onward k) (flagged_state false (with_said (Log logged.Start ∷ []) d)))

-- the round that was settled last begins to be taken back, by these changes
abbrev pub undone_with : Network → List Change → List Change → ℕ → DriverState → DriverState
undone_with net round changes k d = settled_if_answered round (sent_out net changes (Undone k) (flagged_state true (with_said (Log logged.Back ∷ []) d)))

-- the running round is turned back, by these changes
abbrev pub turned_with : Network → List Change → List Change → ℕ → DriverState → DriverState
turned_with net round changes k d = settled_if_answered round (sent_out net changes (Undone k) d)

-- why the next round may not start in a stage, if it may not: a round is running; all are settled; or a switch with a change in it isn't dead and has no open session, the least one
abbrev pub start_fault_in : Network → List (List Change) → List PeerState → Stage → Option CallFault
start_fault_in net rounds peers (Settled k) =
    if k == length rounds then Some fault.Finished
    else option_map fault.NotOpen (first_not_open peers (switches_changed net (round_after k rounds)))
start_fault_in net rounds peers (Onward k) = Some fault.Running
start_fault_in net rounds peers (Undone k) = Some fault.Running

-- why an update may not turn back in a stage, if it may not: a round is being taken back; no round is settled; or a switch with a change in the round that was settled last
-- isn't dead and has no open session, the least one
abbrev pub back_fault_in : Network → List (List Change) → List PeerState → Stage → Option CallFault
back_fault_in net rounds peers (Settled zero) = Some fault.NotBegun
back_fault_in net rounds peers (Settled (suc k)) = option_map fault.NotOpen (first_not_open peers (switches_changed net (round_after k rounds)))
back_fault_in net rounds peers (Onward k) = None
back_fault_in net rounds peers (Undone k) = Some fault.Running

-- a driver after the next round starts
abbrev pub started_in : Network → List (List Change) → Stage → DriverState → DriverState
started_in net rounds (Settled k) d = started_with net (round_after k rounds) k d
started_in net rounds (Onward k) d = d
started_in net rounds (Undone k) d = d

-- a driver after it turns back
abbrev pub turned_in : Network → List (List Change) → List (List Change) → Stage → DriverState → DriverState
turned_in net rounds inverses (Settled zero) d = d
turned_in net rounds inverses (Settled (suc k)) d = undone_with net (round_after k rounds) (round_after k inverses) k d
turned_in net rounds inverses (Onward k) d = turned_with net (round_after k rounds) (round_after k inverses) k d
turned_in net rounds inverses (Undone k) d = d

-- a driver after the session with a switch is opened again
abbrev pub reopened_driver : SwitchId → DriverState → DriverState
reopened_driver s d = with_said (Send s hello ∷ []) (with_peer s (reopened_peer (peer_at d s)) d)

-- a driver after a switch died: the running round no longer waits for it
abbrev pub dead_driver : List (List Change) → SwitchId → DriverState → DriverState
dead_driver rounds s d =
    if (peer_at d s).is_dead then d else settled_if_answered (running_round rounds d.stage) (with_peer s (dead_peer (peer_at d s)) d)
