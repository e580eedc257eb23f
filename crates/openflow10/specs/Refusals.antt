-- The order in which bytes are refused that no message begins.
use Rattle.std.specs.Prelude.{ℕ, ◌%◌, ◌^◌, ◌==◌, ◌&&◌, ◌||◌, nat_le, Bool, if◌then◌else◌, List, [], ◌∷◌, ◌++◌, length, Option, Some, None, is_some}
use Rattle.openflow10.specs.Layout.{number_at}
use Rattle.openflow10.specs.Match.{any_port, any_vlan, ignored_bits, wildcards_of, vlan_none}
use Rattle.openflow10.specs.FlowMod.{flow_mod_at}
use Rattle.topology.specs.Networks.{is_vlan_id}
use Rattle.openflow10.specs.Actions.{is_port, actions_in, verb_in}
use Rattle.openflow10.specs.declared.ofp_match.MatchFields.{MatchFields}
use Rattle.openflow10.specs.declared.ofp_flow_mod.FlowModFields.{FlowModFields}
use Rattle.openflow10.specs.declared.ofp_action.ActionFields.{ActionFields}
use Rattle.openflow10.specs.declared.WireFault.{WireFault}
use Rattle.openflow10.specs.declared.WireFault.TheVariants as fault
use Rattle.openflow10.specs.declared.WireField.{WireField}
use Rattle.openflow10.specs.declared.WireField.TheVariants as field

-- a test, and the refusal of bytes that fail it
pub record Test : Type 0 where
  pub passed : Bool
  pub refusal : WireFault

-- the refusal of the first test that fails
abbrev pub first_failed : List Test → Option WireFault
first_failed [] = None
first_failed (t ∷ tests) = if t.passed then first_failed tests else Some t.refusal

-- a test with the refusal of bytes that fail it
abbrev pub test : Bool → WireFault → Test
test passed refusal = record { passed = passed; refusal = refusal }

-- a test of a field, that it has a value which is written
abbrev pub profile : WireField → Bool → Test
profile f passed = record { passed = passed; refusal = fault.Profile f }

-- the types of messages: flow message, barrier request, barrier reply
unfoldable pub is_type : ℕ → Bool
is_type type = (type == 14) || (type == 18) || (type == 19)

-- the lengths of a type: a flow message has at most two actions
unfoldable pub is_length : ℕ → ℕ → Bool
is_length type n = if type == 14 then (n == 72) || (n == 80) || (n == 88) else n == 8

-- the tests of the header
abbrev pub header_tests : List ℕ → List Test
header_tests bytes =
    test (nat_le 8 (length bytes)) fault.Short
    ∷ test (number_at 0 1 bytes == 1) fault.Version
    ∷ test (is_type (number_at 1 1 bytes)) fault.Kind
    ∷ test (is_length (number_at 1 1 bytes) (number_at 2 2 bytes)) fault.Length
    ∷ test (nat_le (number_at 2 2 bytes) (length bytes)) fault.Short
    ∷ []

-- the wildcards are those of some pattern: the two bits and the count of the destination are free, the count up to 32, and the other bits are fixed
unfoldable pub has_wildcards : MatchFields → Bool
has_wildcards m =
    (m.wildcards == wildcards_of (any_port m.wildcards) (any_vlan m.wildcards) (ignored_bits m.wildcards))
    && nat_le (ignored_bits m.wildcards) 32

-- 0 where it is a wildcard, and else a port
unfoldable pub has_in_port : MatchFields → Bool
has_in_port m = if any_port m.wildcards then m.in_port == 0 else is_port m.in_port

-- no Ethernet address
unfoldable pub has_layer_two : MatchFields → Bool
has_layer_two m = (m.dl_src == 0) && (m.dl_dst == 0)

-- 0 where it is a wildcard, and else no tag or an id
unfoldable pub has_vlan : MatchFields → Bool
has_vlan m = if any_vlan m.wildcards then m.dl_vlan == 0 else (m.dl_vlan == vlan_none) || is_vlan_id m.dl_vlan

-- no VLAN priority, and a pad
unfoldable pub has_vlan_priority : MatchFields → Bool
has_vlan_priority m = (m.dl_vlan_pcp == 0) && (m.pad1 == 0)

-- no type of service, no protocol, a pad, and no source address
unfoldable pub has_network : MatchFields → Bool
has_network m = (m.nw_tos == 0) && (m.nw_proto == 0) && (m.pad2 == 0) && (m.nw_src == 0)

-- the bits that are ignored are zero
unfoldable pub has_address : MatchFields → Bool
has_address m = m.nw_dst % 2 ^ ignored_bits m.wildcards == 0

-- no transport ports
unfoldable pub has_transport : MatchFields → Bool
has_transport m = (m.tp_src == 0) && (m.tp_dst == 0)

-- the tests of the match, in byte order
abbrev pub match_tests : MatchFields → List Test
match_tests m =
    profile field.Wildcards (has_wildcards m)
    ∷ profile field.InPort (has_in_port m)
    ∷ profile field.LayerTwo (has_layer_two m)
    ∷ profile field.Vlan (has_vlan m)
    ∷ profile field.VlanPriority (has_vlan_priority m)
    ∷ profile field.DlType (m.dl_type == 0x0800)
    ∷ profile field.Network (has_network m)
    ∷ profile field.Address (has_address m)
    ∷ profile field.Transport (has_transport m)
    ∷ []

-- OFPFC_ADD, OFPFC_MODIFY_STRICT or OFPFC_DELETE_STRICT
unfoldable pub has_command : FlowModFields → Bool
has_command m = (m.command == 0) || (m.command == 2) || (m.command == 4)

-- no timeouts
unfoldable pub has_timeouts : FlowModFields → Bool
has_timeouts m = (m.idle_timeout == 0) && (m.hard_timeout == 0)

-- the tests of the other fields, in byte order
abbrev pub command_tests : FlowModFields → List Test
command_tests m =
    profile field.Cookie (m.cookie == 0)
    ∷ profile field.Command (has_command m)
    ∷ profile field.Timeouts (has_timeouts m)
    ∷ profile field.Priority (nat_le 1 m.priority)
    ∷ profile field.Buffer (m.buffer_id == 0xffffffff)
    ∷ profile field.OutPort (m.out_port == 0xffff)
    ∷ profile field.Flags (m.flags == 0)
    ∷ []

-- the tests of a flow message behind its header, in byte order
abbrev pub flow_tests : FlowModFields → List ActionFields → List Test
flow_tests m actions =
    match_tests m.pattern
    ++ (command_tests m ++ (profile field.Actions (is_some (verb_in m.command actions)) ∷ []))

-- the tests of what follows the header
abbrev pub body_tests : List ℕ → List Test
body_tests bytes = if number_at 1 1 bytes == 14 then flow_tests (flow_mod_at bytes) (actions_in bytes) else []

-- why the bytes are refused, if they are
unfoldable pub refusal_of : List ℕ → Option WireFault
refusal_of bytes = first_failed (header_tests bytes ++ body_tests bytes)
