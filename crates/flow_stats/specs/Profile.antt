-- Which entries are rules of the profile, and of a network, by the table of their fields. The values of fields that are
-- wildcards are passed over.
use Rattle.std.specs.Prelude.{ℕ, ◌-◌, ◌*◌, ◌/◌, ◌%◌, ◌^◌, ◌==◌, ◌&&◌, ◌||◌, not, nat_le, min, Bool, true, false, Option, None, Some, Result, Ok}
use Rattle.std.specs.Int.{bit_at}
use Rattle.net_base.specs.Blocks.{Block}
use Rattle.net_base.specs.declared.ids.SwitchId.{SwitchId}
use Rattle.net_base.specs.declared.ids.Port.{Port}
use Rattle.net_base.specs.Reading.{◌>>=◌, check, need}
use Rattle.topology.specs.Networks.{Network, is_used, is_tag, is_vlan_id}
use Rattle.flow_rules.specs.declared.rules.VlanTest.{VlanTest}
use Rattle.flow_rules.specs.declared.rules.VlanTest.TheVariants as test
use Rattle.flow_rules.specs.declared.rules.Key.{Key}
use Rattle.flow_rules.specs.declared.rules.Rewrite.TheVariants.{Keep}
use Rattle.flow_rules.specs.declared.rules.Action.{Action}
use Rattle.flow_rules.specs.declared.rules.Action.TheVariants.{Discard, Out}
use Rattle.flow_rules.specs.declared.rules.Rule.{Rule}
use Rattle.openflow10.specs.Match.{any_port, any_vlan, ignored_bits, port_in, vlan_in, vlan_none}
use Rattle.openflow10.specs.Actions.{is_port}
use Rattle.openflow10.specs.declared.ofp_match.MatchFields.{MatchFields}
use Rattle.flow_stats.specs.declared.entries.Entry.{Entry}
use Rattle.flow_stats.specs.declared.entries.EntryActions.{EntryActions}
use Rattle.flow_stats.specs.declared.entries.EntryActions.TheVariants.{Empty, Output, Other}
use Rattle.flow_stats.specs.declared.fields.FlowStatsFields.{FlowStatsFields}
use Rattle.flow_stats.specs.declared.fault.StatsFault.{StatsFault}
use Rattle.flow_stats.specs.declared.fault.StatsFault.TheVariants.{Profile, BadPort, ReservedVlan}
use Rattle.flow_stats.specs.declared.fault.StatsField.TheVariants.{Wildcards, InPort, Vlan, DlType, Priority, Timeouts, Actions}

-- whether a field is a wildcard, by its bit of enum ofp_flow_wildcards (OpenFlow 1.0.0, section 5.2.3)
abbrev pub is_wild : ℕ → ℕ → Bool
is_wild wildcards bit = bit_at wildcards bit == 1

-- how many low bits of the source are ignored: OFPFW_NW_SRC, six bits
abbrev pub ignored_source_bits : ℕ → ℕ
ignored_source_bits wildcards = wildcards / 2 ^ 8 % 2 ^ 6

-- the frame type counts; the Ethernet addresses, the VLAN priority, the type of service, the protocol, the transport ports
-- and all bits of the source are wildcards; bits above OFPFW_NW_TOS are passed over
unfoldable pub has_wildcards : MatchFields → Bool
has_wildcards m =
    not (is_wild m.wildcards 4)  -- OFPFW_DL_TYPE
    && is_wild m.wildcards 2  -- OFPFW_DL_SRC
    && is_wild m.wildcards 3  -- OFPFW_DL_DST
    && is_wild m.wildcards 20  -- OFPFW_DL_VLAN_PCP
    && is_wild m.wildcards 21  -- OFPFW_NW_TOS
    && is_wild m.wildcards 5  -- OFPFW_NW_PROTO
    && is_wild m.wildcards 6  -- OFPFW_TP_SRC
    && is_wild m.wildcards 7  -- OFPFW_TP_DST
    && nat_le 32 (ignored_source_bits m.wildcards)

-- any ingress port, or one from 1 to 65279
unfoldable pub has_in_port : MatchFields → Bool
has_in_port m = any_port m.wildcards || is_port m.in_port

-- any VLAN, no tag, or an id from 1 to 4094
unfoldable pub has_vlan : MatchFields → Bool
has_vlan m = any_vlan m.wildcards || (m.dl_vlan == vlan_none) || is_vlan_id m.dl_vlan

-- a priority that a user may write: the bands above belong to two-phase plans
unfoldable pub has_priority : FlowStatsFields → Bool
has_priority e = nat_le 1 e.priority && nat_le e.priority 16383

-- the entry stays until it is deleted
unfoldable pub has_no_timeouts : FlowStatsFields → Bool
has_no_timeouts e = (e.idle_timeout == 0) && (e.hard_timeout == 0)

-- how many low bits of the destination are ignored; counts of 32 and more ignore all
abbrev pub ignored_of : MatchFields → ℕ
ignored_of m = min (ignored_bits m.wildcards) 32

-- the destinations: the address without the bits that are ignored
unfoldable pub dst_in : MatchFields → Block
dst_in m = record { base = m.nw_dst / 2 ^ ignored_of m * 2 ^ ignored_of m; len = 32 - ignored_of m }

-- the key that the fields name
abbrev pub key_in : FlowStatsFields → Key
key_in e = record { priority = e.priority; pattern = record { in_port = port_in e.pattern; vlan = vlan_in e.pattern; dst = dst_in e.pattern } }

-- what an entry does: without actions it discards the packet, by one output it sends it to the port as it is
abbrev pub action_of : EntryActions → Option Action
action_of Empty = Some Discard
action_of (Output p) = Some (Out p Keep)
action_of Other = None

-- the rule of an entry whose fields have values of the profile, or the first that hasn't
unfoldable pub profile_rule : ℕ → Entry → Result Rule StatsFault
profile_rule entry e = do
  _ ← check (has_wildcards e.fields.pattern) (Profile entry Wildcards)
  _ ← check (has_in_port e.fields.pattern) (Profile entry InPort)
  _ ← check (has_vlan e.fields.pattern) (Profile entry Vlan)
  _ ← check (e.fields.pattern.dl_type == 0x0800) (Profile entry DlType)
  _ ← check (has_priority e.fields) (Profile entry Priority)
  _ ← check (has_no_timeouts e.fields) (Profile entry Timeouts)
  action ← need (action_of e.actions) (Profile entry Actions)
  Ok (record { key = key_in e.fields; action = action })

-- whether a choice of an ingress port is any, or a host port or link end of the switch
abbrev pub is_port_used : Network → SwitchId → Option Port → Bool
is_port_used net s None = true
is_port_used net s (Some p) = is_used net (record { switch = s; port = p })

-- whether an action discards, or sends out of a host port or link end of the switch
abbrev pub is_action_used : Network → SwitchId → Action → Bool
is_action_used net s Discard = true
is_action_used net s (Out p rewrite) = is_used net (record { switch = s; port = p })

-- whether the ports that a rule names are host ports or link ends of the switch
unfoldable pub has_used_ports : Network → SwitchId → Rule → Bool
has_used_ports net s r = is_port_used net s r.key.pattern.in_port && is_action_used net s r.action

-- whether a VLAN test names an available tag
abbrev pub is_reserved : Network → VlanTest → Bool
is_reserved net (test.Id id) = is_tag net id
is_reserved net _ = false

-- the rule of an entry of a switch, or the first refusal
unfoldable pub rule_in : Network → ℕ → SwitchId → Entry → Result Rule StatsFault
rule_in net entry s e = do
  rule ← profile_rule entry e
  _ ← check (has_used_ports net s rule) (BadPort entry)
  _ ← check (not (is_reserved net rule.key.pattern.vlan)) (ReservedVlan entry)
  Ok rule
