-- The 40 bytes of a flow match (OpenFlow 1.0.0, section 5.2.3).
use Rattle.std.specs.Prelude.{ℕ, ◌+◌, ◌-◌, ◌*◌, ◌/◌, ◌%◌, ◌^◌, ◌==◌, Bool, true, false, if◌then◌else◌, List, [], ◌∷◌, Option, Some, None, is_none}
use Rattle.std.specs.Int.{bit_at}
use Rattle.net_base.specs.declared.ids.Port.{Port}
use Rattle.flow_rules.specs.declared.rules.VlanTest.{VlanTest}
use Rattle.flow_rules.specs.declared.rules.VlanTest.TheVariants as test
use Rattle.flow_rules.specs.declared.rules.Pattern.{Pattern}
use Rattle.openflow10.specs.Layout.{Row, field, number_at}
use Rattle.openflow10.specs.declared.ofp_match.MatchFields.{MatchFields}

-- struct ofp_match, from an offset on (pad1 and pad2 are its pads)
abbrev pub match_table : ℕ → MatchFields → List Row
match_table at m =
    field at 4 m.wildcards
    ∷ field (at + 4) 2 m.in_port
    ∷ field (at + 6) 6 m.dl_src
    ∷ field (at + 12) 6 m.dl_dst
    ∷ field (at + 18) 2 m.dl_vlan
    ∷ field (at + 20) 1 m.dl_vlan_pcp
    ∷ field (at + 21) 1 m.pad1
    ∷ field (at + 22) 2 m.dl_type
    ∷ field (at + 24) 1 m.nw_tos
    ∷ field (at + 25) 1 m.nw_proto
    ∷ field (at + 26) 2 m.pad2
    ∷ field (at + 28) 4 m.nw_src
    ∷ field (at + 32) 4 m.nw_dst
    ∷ field (at + 36) 2 m.tp_src
    ∷ field (at + 38) 2 m.tp_dst
    ∷ []

-- the struct in the bytes, from an offset on
abbrev pub match_at : ℕ → List ℕ → MatchFields
match_at at bytes = record {
  wildcards = number_at at 4 bytes;
  in_port = number_at (at + 4) 2 bytes;
  dl_src = number_at (at + 6) 6 bytes;
  dl_dst = number_at (at + 12) 6 bytes;
  dl_vlan = number_at (at + 18) 2 bytes;
  dl_vlan_pcp = number_at (at + 20) 1 bytes;
  pad1 = number_at (at + 21) 1 bytes;
  dl_type = number_at (at + 22) 2 bytes;
  nw_tos = number_at (at + 24) 1 bytes;
  nw_proto = number_at (at + 25) 1 bytes;
  pad2 = number_at (at + 26) 2 bytes;
  nw_src = number_at (at + 28) 4 bytes;
  nw_dst = number_at (at + 32) 4 bytes;
  tp_src = number_at (at + 36) 2 bytes;
  tp_dst = number_at (at + 38) 2 bytes;
}

-- enum ofp_flow_wildcards, where any port or not, any VLAN or not, and so many low bits of the destination are ignored:
-- every other field is a wildcard, but for the type of the frame
unfoldable pub wildcards_of : Bool → Bool → ℕ → ℕ
wildcards_of any_port any_vlan ignored =
    (if any_port then 2 ^ 0 else 0)  -- OFPFW_IN_PORT
    + (if any_vlan then 2 ^ 1 else 0)  -- OFPFW_DL_VLAN
    + 2 ^ 2  -- OFPFW_DL_SRC
    + 2 ^ 3  -- OFPFW_DL_DST
    + 0 * 2 ^ 4  -- OFPFW_DL_TYPE
    + 2 ^ 5  -- OFPFW_NW_PROTO
    + 2 ^ 6  -- OFPFW_TP_SRC
    + 2 ^ 7  -- OFPFW_TP_DST
    + 32 * 2 ^ 8  -- OFPFW_NW_SRC, six bits
    + ignored * 2 ^ 14  -- OFPFW_NW_DST, six bits
    + 2 ^ 20  -- OFPFW_DL_VLAN_PCP
    + 2 ^ 21  -- OFPFW_NW_TOS

-- whether the wildcards leave the ingress port open
unfoldable pub any_port : ℕ → Bool
any_port wildcards = bit_at wildcards 0 == 1

-- whether they leave the VLAN open
unfoldable pub any_vlan : ℕ → Bool
any_vlan wildcards = bit_at wildcards 1 == 1

-- how many low bits of the destination they ignore
unfoldable pub ignored_bits : ℕ → ℕ
ignored_bits wildcards = wildcards / 2 ^ 14 % 2 ^ 6

-- OFP_VLAN_NONE: the packet has no tag
abbrev pub vlan_none : ℕ
vlan_none = 0xffff

-- the ingress port, 0 for any
abbrev pub in_port_of : Option Port → ℕ
in_port_of None = 0
in_port_of (Some p) = p.0

-- the VLAN id, 0 for any
abbrev pub dl_vlan_of : VlanTest → ℕ
dl_vlan_of test.Any = 0
dl_vlan_of test.Untagged = vlan_none
dl_vlan_of (test.Id id) = id

-- whether the test is of any VLAN
abbrev pub is_any : VlanTest → Bool
is_any test.Any = true
is_any _ = false

-- what a pattern writes into the struct: IPv4 packets (frame type 0x0800), with the fields that it names
abbrev pub match_of : Pattern → MatchFields
match_of p = record {
  wildcards = wildcards_of (is_none p.in_port) (is_any p.vlan) (32 - p.dst.len);
  in_port = in_port_of p.in_port;
  dl_src = 0;
  dl_dst = 0;
  dl_vlan = dl_vlan_of p.vlan;
  dl_vlan_pcp = 0;
  pad1 = 0;
  dl_type = 0x0800;
  nw_tos = 0;
  nw_proto = 0;
  pad2 = 0;
  nw_src = 0;
  nw_dst = p.dst.base;
  tp_src = 0;
  tp_dst = 0;
}

-- the ingress port that the struct names
abbrev pub port_in : MatchFields → Option Port
port_in m = if any_port m.wildcards then None else Some (record { 0 = m.in_port })

-- the VLAN test that the struct names
abbrev pub vlan_in : MatchFields → VlanTest
vlan_in m = if any_vlan m.wildcards then test.Any else if m.dl_vlan == vlan_none then test.Untagged else test.Id m.dl_vlan

-- the pattern that the struct names
abbrev pub pattern_in : MatchFields → Pattern
pattern_in m = record {
  in_port = port_in m;
  vlan = vlan_in m;
  dst = record { base = m.nw_dst; len = 32 - ignored_bits m.wildcards };
}
