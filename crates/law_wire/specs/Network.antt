-- A network on the wire: tables, what is on the way to each switch and from it, the calls of the controller's driver, and packets.
use Rattle.std.specs.Prelude.{◌≡◌, ◌≢◌, ◌⊎◌, ◌^◌, ℕ, suc, ◌<◌, ◌≤◌, ◌==◌, if◌then◌else◌, Bool, true, false, List, [], ◌∷◌, ◌++◌, length, take, drop, filter, filter_map, slice_get, slice_set, Option, Some, None}
use Rattle.std.specs.Option.{option_map}
use Rattle.std.specs.List.{AllByRecursion}
use Rattle.net_base.specs.declared.ids.SwitchId.{SwitchId}
use Rattle.net_base.specs.declared.ids.Place.{Place}
use Rattle.topology.specs.Networks.{IsEntry, switch_count}
use Rattle.flow_rules.specs.Tables.{rules_at, IsTable}
use Rattle.flow_rules.specs.declared.rules.Rule.{Rule}
use Rattle.path_walk.specs.Paths.{outcome_in}
use Rattle.path_walk.specs.declared.Ended.TheVariants.{UnderWay}
use Rattle.net_base.specs.Members.{IsSameSet}
use Rattle.update_model.specs.Mixtures.{Rollout}
use Rattle.update_model.specs.States.{IsHopping, entered_packet, hopped_packet, lost_packet, with_packet}
use Rattle.update_model.specs.declared.Packet.{Packet}
use Rattle.openflow10.specs.FlowMod.{flow_mod_at, key_in}
use Rattle.openflow10.specs.Actions.{actions_in, verb_in}
use Rattle.openflow10.specs.Messages.{wire_text}
use Rattle.openflow10.specs.declared.FlowMod.{FlowMod}
use Rattle.openflow10.specs.declared.Message.{Message}
use Rattle.openflow10.specs.declared.Message.TheVariants.{Flow, BarrierRequest, BarrierReply}
use Rattle.switch_session.specs.Fronts.{type_in, xid_in}
use Rattle.switch_session.specs.Laws.{IsWhole}
use Rattle.law_two_way_runs.specs.States.{TwoWayState}
use Rattle.law_two_way_runs.specs.Runs.{state_after_two_way}
use Rattle.round_inverses.specs.Rounds.{inverse_rounds}
use Rattle.two_way_driver.specs.Calls.{DriverView}
use Rattle.two_way_driver.specs.Drivers.{peer_at}
use Rattle.two_way_driver.specs.Laws.{Call, driver_after, events_in}
use Rattle.two_way_driver.specs.Laws as call
use Rattle.two_way_driver.specs.Words.{after_call_anew}
use Rattle.two_way_driver.specs.Sending.{texts_to}
use Rattle.two_way_driver.specs.declared.DriverEvent.TheVariants as logged
use Rattle.two_way_driver.specs.declared.DriverOutput.{DriverOutput}
use Rattle.two_way_driver.specs.declared.DriverOutput.TheVariants.{Log}
use Rattle.two_way_driver.specs.declared.Stage.{Stage}
use Rattle.two_way_driver.specs.declared.Stage.TheVariants.{Settled, Onward, Undone}
use Rattle.law_wire.specs.Carried.{carried}

-- the tables; for each switch the messages that it hasn't dealt with (inbox), and the bytes that it sent and that the driver hasn't got (outbox); the calls of the driver, and the packets
pub record WireState : Type 0 where
  pub tables : List (List Rule)
  pub inbox : SwitchId → List Message
  pub outbox : SwitchId → List ℕ
  pub calls : List Call
  pub packets : List Packet

-- the old tables, empty boxes, no calls and no packets
abbrev pub first_wire : List (List Rule) → WireState
first_wire old = record { tables = old; inbox = λ s. []; outbox = λ s. []; calls = []; packets = [] }

-- ---- the driver

-- the driver of the rounds and of those that take them back, behind these calls
abbrev pub driver_at : Rollout → List Call → DriverView
driver_at u calls = driver_after u.net u.rounds (inverse_rounds u.old u.rounds) calls

-- what it says at one call more
abbrev pub block_at : Rollout → List Call → Call → List DriverOutput
block_at u calls c = (after_call_anew (driver_at u calls) c).state.said

-- how far it is
abbrev pub stage_at : Rollout → List Call → Stage
stage_at u calls = (driver_at u calls).state.stage

abbrev pub is_settling : DriverOutput → Bool
is_settling (Log logged.Settle) = true
is_settling (Log logged.SettleBack) = true
is_settling word = false

-- the state to which the events of all that was said lead
abbrev pub logged_state : Rollout → List Call → TwoWayState
logged_state u calls = state_after_two_way u (events_in (driver_at u calls).state.said)

-- whether a switch is dead
abbrev pub is_gone : Rollout → WireState → SwitchId → Bool
is_gone u st s = (peer_at (driver_at u st.calls).state s).is_dead

-- how often a round was settled, in either way, in all that was said
abbrev pub settles_in : List DriverOutput → ℕ
settles_in said = length (filter is_settling said)

abbrev pub settles_at : Rollout → List Call → ℕ
settles_at u calls = settles_in (driver_at u calls).state.said

-- ---- boxes

-- the flow message of bytes with the type of one
abbrev pub flow_in : List ℕ → Option Message
flow_in text = option_map (λ verb. Flow (record { xid = xid_in text; verb = verb; key = key_in (flow_mod_at text) })) (verb_in (flow_mod_at text).command (actions_in text))

-- what a switch has to deal with of a text that is sent to it: OFPT_FLOW_MOD (14) and OFPT_BARRIER_REQUEST (18); no other message touches a table
abbrev pub inbox_message : List ℕ → Option Message
inbox_message text =
    if type_in text == 14 then flow_in text
    else if type_in text == 18 then Some (BarrierRequest (xid_in text))
    else None

-- what comes to the end of a switch's inbox of all that is said
abbrev pub arriving : SwitchId → List DriverOutput → List Message
arriving s said = filter_map inbox_message (texts_to s said)

-- the box of one switch is another one
abbrev pub with_box : {A : Type 0} → SwitchId → A → (SwitchId → A) → SwitchId → A
with_box s box boxes t = if t.0 == s.0 then box else boxes t

-- the driver is called: what it says goes out
abbrev pub given : Rollout → Call → WireState → WireState
given u c st = record st { calls = st.calls ++ c ∷ []; inbox = λ s. st.inbox s ++ arriving s (block_at u st.calls c) }

-- the messages without the one at place i
abbrev pub without : ℕ → List Message → List Message
without i messages = take i messages ++ drop (suc i) messages

-- a table after a message is carried out, if it is a flow message
abbrev pub carried_out_at : Option Message → List Rule → List Rule
carried_out_at (Some (Flow m)) rules = carried m rules
carried_out_at message rules = rules

-- the reply to the barrier request that stands first
abbrev pub reply_to : List Message → List ℕ
reply_to (BarrierRequest xid ∷ messages) = wire_text (BarrierReply xid)
reply_to messages = []

-- both boxes of a switch are emptied
abbrev pub cut_off : SwitchId → WireState → WireState
cut_off s st = record st { inbox = with_box s [] st.inbox; outbox = with_box s [] st.outbox }

-- ---- events

-- a switch carries out message i of its inbox; refuses it by an ERROR; answers a barrier request; sends another message. Bytes of it come to the driver.
-- The driver is to begin the next round, or to turn back; a connection is opened again. A packet enters, hops, or is lost.
-- A switch dies; a dead one gets another table
pub data WireEvent : Type 0 where
  Carry : SwitchId → ℕ → WireEvent
  Refuse : SwitchId → ℕ → List ℕ → WireEvent
  Answer : SwitchId → WireEvent
  Say : SwitchId → List ℕ → WireEvent
  Feed : SwitchId → List ℕ → WireEvent
  Begin : WireEvent
  Back : WireEvent
  Reopen : SwitchId → WireEvent
  Enter : Place → ℕ → WireEvent
  Hop : ℕ → WireEvent
  Lose : ℕ → WireEvent
  Dead : SwitchId → WireEvent
  Repair : SwitchId → List Rule → WireEvent

abbrev pub IsFlow : Message → Type 0
IsFlow (Flow m) = Unit {0}
IsFlow (BarrierRequest xid) = ⊥
IsFlow (BarrierReply xid) = ⊥

-- message i of an inbox is a flow message, and no barrier request stands before it (section 5.3.7)
pub record MayDeal (messages : List Message) (i : ℕ) : Type 0 where
  pub flow : FlowMod
  pub is : slice_get messages i ≡ Some (Flow flow)
  pub free : AllByRecursion IsFlow (take i messages)

-- an OFPT_ERROR (1)
pub record IsError (bytes : List ℕ) : Type 0 where
  pub whole : IsWhole bytes
  pub error : type_in bytes ≡ 1
  pub long : 12 ≤ length bytes

-- a barrier request stands first
pub record MayAnswer (messages : List Message) : Type 0 where
  pub xid : ℕ
  pub rest : List Message
  pub is : messages ≡ BarrierRequest xid ∷ rest

-- a whole message, of any version, and of any type but OFPT_BARRIER_REPLY (19)
pub record MaySay (bytes : List ℕ) : Type 0 where
  pub whole : IsWhole bytes
  pub other : type_in bytes ≢ 19

-- bytes at the front of an outbox
abbrev pub IsFront : List ℕ → List ℕ → Type 0
IsFront bytes outbox = (rest : List ℕ) × (outbox ≡ bytes ++ rest)

-- each packet under way entered since a round was settled last, in either way
abbrev pub NoneEarlier : Rollout → WireState → Type 0
NoneEarlier u st = AllByRecursion (λ p. p.ended ≡ UnderWay → settles_at u st.calls ≤ p.born) st.packets

-- a round runs, in either way
abbrev pub IsUnderWayIn : Stage → Type 0
IsUnderWayIn (Settled k) = ⊥
IsUnderWayIn (Onward k) = Unit {0}
IsUnderWayIn (Undone k) = Unit {0}

-- a packet is under way at a switch that isn't dead
pub record MayHop (u : Rollout) (st : WireState) (i : ℕ) : Type 0 where
  pub packet : Packet
  pub is : slice_get st.packets i ≡ Some packet
  pub under_way : packet.ended ≡ UnderWay
  pub alive : is_gone u st packet.at.switch ≡ false

-- a session may be opened again: that of a dead switch where its table is, as a set, that of the last state of the events
pub record MayReopen (u : Rollout) (st : WireState) (s : SwitchId) : Type 0 where
  pub within : s.0 < switch_count u.net
  pub kept : is_gone u st s ≡ true → IsSameSet (rules_at st.tables s) (rules_at (logged_state u st.calls).tables s)

-- when an event may happen. (How long a piece is that is fed makes no difference here.)
abbrev pub IsWireEnabled : Rollout → WireState → WireEvent → Type 0
IsWireEnabled u st (Carry s i) = (s.0 < switch_count u.net) × MayDeal (st.inbox s) i
IsWireEnabled u st (Refuse s i error) = (s.0 < switch_count u.net) × MayDeal (st.inbox s) i × IsError error
IsWireEnabled u st (Answer s) = (s.0 < switch_count u.net) × MayAnswer (st.inbox s)
IsWireEnabled u st (Say s bytes) = (s.0 < switch_count u.net) × MaySay bytes
IsWireEnabled u st (Feed s bytes) = (s.0 < switch_count u.net) × IsFront bytes (st.outbox s)
IsWireEnabled u st Begin = NoneEarlier u st
IsWireEnabled u st Back = IsUnderWayIn (stage_at u st.calls) ⊎ NoneEarlier u st
IsWireEnabled u st (Reopen s) = MayReopen u st s
IsWireEnabled u st (Enter place dst) = IsEntry u.net place × (dst < 2 ^ 32)
IsWireEnabled u st (Hop i) = MayHop u st i
IsWireEnabled u st (Lose i) = IsHopping st.packets i
IsWireEnabled u st (Dead s) = (s.0 < switch_count u.net) × (is_gone u st s ≡ false)
IsWireEnabled u st (Repair s rules) = (s.0 < switch_count u.net) × (is_gone u st s ≡ true) × IsTable rules

-- the state after an event
abbrev pub wire_after : Rollout → WireState → WireEvent → WireState
wire_after u st (Carry s i) = record st {
  tables = slice_set st.tables s.0 (carried_out_at (slice_get (st.inbox s) i) (rules_at st.tables s));
  inbox = with_box s (without i (st.inbox s)) st.inbox;
}
wire_after u st (Refuse s i error) = record st { inbox = with_box s (without i (st.inbox s)) st.inbox; outbox = with_box s (st.outbox s ++ error) st.outbox }
wire_after u st (Answer s) = record st { inbox = with_box s (drop 1 (st.inbox s)) st.inbox; outbox = with_box s (st.outbox s ++ reply_to (st.inbox s)) st.outbox }
wire_after u st (Say s bytes) = record st { outbox = with_box s (st.outbox s ++ bytes) st.outbox }
wire_after u st (Feed s bytes) = given u (call.Feed s bytes) (record st { outbox = with_box s (drop (length bytes) (st.outbox s)) st.outbox })
wire_after u st Begin = given u call.Start st
wire_after u st Back = given u call.Back st
wire_after u st (Reopen s) = given u (call.Reopen s) (cut_off s st)
wire_after u st (Enter place dst) = record st { packets = st.packets ++ entered_packet place dst (settles_at u st.calls) ∷ [] }
wire_after u st (Hop i) = record st { packets = with_packet (λ p. hopped_packet p (outcome_in u.net st.tables p.at p.dst)) i st.packets }
wire_after u st (Lose i) = record st { packets = with_packet lost_packet i st.packets }
wire_after u st (Dead s) = given u (call.Dead s) (cut_off s st)
wire_after u st (Repair s rules) = record st { tables = slice_set st.tables s.0 rules }

-- ---- lists of events

-- each event is enabled in turn
abbrev pub AreWireEnabled : Rollout → WireState → List WireEvent → Type 0
AreWireEnabled u st [] = Unit {0}
AreWireEnabled u st (e ∷ events) = IsWireEnabled u st e × AreWireEnabled u (wire_after u st e) events

-- the state that the events lead to
abbrev pub wire_behind : Rollout → WireState → List WireEvent → WireState
wire_behind u st [] = st
wire_behind u st (e ∷ events) = wire_behind u (wire_after u st e) events

-- what may happen on the wire from the old tables on
abbrev pub IsWireRun : Rollout → List WireEvent → Type 0
IsWireRun u events = AreWireEnabled u (first_wire u.old) events

abbrev pub state_on_wire : Rollout → List WireEvent → WireState
state_on_wire u events = wire_behind u (first_wire u.old) events
