-- The wire text of messages (OpenFlow 1.0.0; version 0x01).
use Rattle.std.specs.Prelude.{◌≡◌, ◌<◌, ◌≤◌, ◌^◌, ◌*◌, ℕ, ◌+◌, List, [], ◌∷◌, ◌++◌, length, take}
use Rattle.net_base.specs.Blocks.{IsBlock}
use Rattle.update_model.specs.Ranges.{IsPlanPort, IsPlanVlan, IsPlanAction}
use Rattle.update_model.specs.declared.Change.{Change}
use Rattle.update_model.specs.declared.Change.TheVariants.{Insert, Delete, Replace}
use Rattle.openflow10.specs.Layout.{Row, field, text_of}
use Rattle.openflow10.specs.FlowMod.{flow_mod_table, flow_mod_of}
use Rattle.openflow10.specs.Actions.{actions_table, verb_actions}
use Rattle.openflow10.specs.declared.Verb.{Verb}
use Rattle.openflow10.specs.declared.Verb.TheVariants.{Add, Modify, Remove}
use Rattle.openflow10.specs.declared.FlowMod.{FlowMod}
use Rattle.openflow10.specs.declared.Message.{Message}
use Rattle.openflow10.specs.declared.Message.TheVariants.{Flow, BarrierRequest, BarrierReply}

-- enum ofp_type (section 5.1): OFPT_FLOW_MOD, OFPT_BARRIER_REQUEST, OFPT_BARRIER_REPLY
abbrev pub type_of : Message → ℕ
type_of (Flow m) = 14
type_of (BarrierRequest xid) = 18
type_of (BarrierReply xid) = 19

-- the number that a reply repeats
abbrev pub xid_of : Message → ℕ
xid_of (Flow m) = m.xid
xid_of (BarrierRequest xid) = xid
xid_of (BarrierReply xid) = xid

-- how many bytes the whole message has: a barrier is a header alone (section 5.3.7)
abbrev pub length_of : Message → ℕ
length_of (Flow m) = 72 + 8 * length (verb_actions m.verb)
length_of (BarrierRequest xid) = 8
length_of (BarrierReply xid) = 8

-- struct ofp_header (section 5.1)
abbrev pub header_table : Message → List Row
header_table m =
    field 0 1 1
    ∷ field 1 1 (type_of m)
    ∷ field 2 2 (length_of m)
    ∷ field 4 4 (xid_of m)
    ∷ []

-- what follows the header
abbrev pub body_table : Message → List Row
body_table (Flow m) = flow_mod_table (flow_mod_of m.verb m.key) ++ actions_table 72 (verb_actions m.verb)
body_table (BarrierRequest xid) = []
body_table (BarrierReply xid) = []

-- all fields of a message
abbrev pub message_table : Message → List Row
message_table m = header_table m ++ body_table m

-- the wire text of a message
unfoldable pub wire_text : Message → List ℕ
wire_text m = text_of (message_table m)

-- the message that carries out a change: an insert adds, a replace modifies and a delete deletes the entry of just its key
abbrev pub message_of : Change → ℕ → Message
message_of (Insert s r) xid = Flow (record { xid = xid; verb = Add r.action; key = r.key })
message_of (Delete s r) xid = Flow (record { xid = xid; verb = Remove; key = r.key })
message_of (Replace s r) xid = Flow (record { xid = xid; verb = Modify r.action; key = r.key })

-- the numbers of a command's actions are in range
abbrev pub IsVerb : Verb → Type 0
IsVerb (Add action) = IsPlanAction action
IsVerb (Modify action) = IsPlanAction action
IsVerb Remove = Unit {0}

-- a flow message whose numbers are in range: ports 1 to 65279, VLAN ids 1 to 4094, priorities 1 to 65535
pub record IsFlowMod (m : FlowMod) : Type 0 where
  pub xid : m.xid < 2 ^ 32
  pub priority : 1 ≤ m.key.priority
  pub priority_most : m.key.priority ≤ 65535
  pub port : IsPlanPort m.key.pattern.in_port
  pub vlan : IsPlanVlan m.key.pattern.vlan
  pub dst : IsBlock m.key.pattern.dst
  pub verb : IsVerb m.verb

-- a message whose numbers are in range
abbrev pub IsMessage : Message → Type 0
IsMessage (Flow m) = IsFlowMod m
IsMessage (BarrierRequest xid) = xid < 2 ^ 32
IsMessage (BarrierReply xid) = xid < 2 ^ 32

-- the first n bytes are the wire text of the message
pub record BeginsWith (bytes : List ℕ) (m : Message) (n : ℕ) : Type 0 where
  pub in_range : IsMessage m
  pub count : n ≡ length (wire_text m)
  pub text : take n bytes ≡ wire_text m
