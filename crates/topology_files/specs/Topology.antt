-- The reading of a topology, by the table of its members.
use Rattle.std.specs.Prelude.{ℕ, ◌&&◌, ◌||◌, ◌==◌, List, [], ◌∷◌, ◌++◌, length, count_by, Bool, true, false, not, nat_lt, nat_le, is_none, Option, None, Some, option_and_then, option_map, Result, Ok, Err, codes, if◌then◌else◌}
use Rattle.std.specs.List.{list_any}
use Rattle.std.specs.Option.{option_or}
use Rattle.std.specs.Str.{bytes_eq}
use Rattle.serde_json.specs.Data.{Data}
use Rattle.serde_json.specs.Find.{get, as_str}
use Rattle.net_base.specs.declared.ids.Stop.{Stop}
use Rattle.net_base.specs.declared.ids.Vlan.{Vlan}
use Rattle.net_base.specs.declared.ids.Vlan.TheVariants.{Untagged, Id}
use Rattle.net_base.specs.declared.field.Field.{Field}
use Rattle.net_base.specs.declared.field.Field.TheVariants.{Top, Format, Switches, Name, Capacity, Links, Hosts, Vlans, Tags, Fields}
use Rattle.net_base.specs.Reading.{◌>>=◌, check, need, in_turn}
use Rattle.flat_json.specs.JsonTree.{is_object, text_at, whole_at, whole_in, list_in, list_at, tree_in}
use Rattle.topology_files.specs.declared.fault.NetFault.{NetFault}
use Rattle.topology_files.specs.declared.fault.NetFault.TheVariants.{NotJson, Shape, BadName, DoubleName, UnknownSwitch, BadPort, PortTwice, BadVlan, VlanTwice, BadTags, BadCapacity, TooMany, BadFormat, BadField}
use Rattle.topology.specs.Networks.{Network, TagRange, switch_named, used_ports, is_on, stop_eq, vlan_eq, is_name, is_capacity, is_vlan_id}
use Rattle.topology.specs.Growth.{no_network, with_switch, with_link, with_host, with_vlan, with_tags}
use Rattle.topology.specs.References.{reference_parts}
use Rattle.net_base.specs.Switches.{most_switches}

-- ---- format

-- whether the member `format` asks for a wide network; where it is absent the network is narrow
unfoldable pub format_in : Option Data → Result Bool NetFault
format_in None = Ok false
format_in (Some d) = do
  number ← need (whole_in d) (Shape Format 0)
  _ ← check (number == 1 || number == 2) BadFormat
  Ok (number == 2)

-- ---- switches

-- the name of one item of `switches`
unfoldable pub name_at : ℕ → Network → Data → Result (List ℕ) NetFault
name_at place net d = do
  _ ← check (is_object d) (Shape Switches place)
  name ← need (text_at (codes "name") d) (Shape Name place)
  _ ← check (is_name name) (BadName place)
  _ ← check (is_none (switch_named net.names name)) (DoubleName place)
  Ok name

-- the name and the capacity of one item of `switches`
unfoldable pub named_at : ℕ → Network → Data → Result (List ℕ × ℕ) NetFault
named_at place net d = do
  _ ← check (nat_lt (length net.names) most_switches) (TooMany Switches place)
  name ← name_at place net d
  capacity ← need (whole_at (codes "capacity") d) (Shape Capacity place)
  _ ← check (is_capacity capacity) (BadCapacity place)
  Ok (name, capacity)

-- one item of `switches`
unfoldable pub switch_at : ℕ → Network → Data → Result Network NetFault
switch_at place net d = do
  named ← named_at place net d
  Ok (with_switch net named.0 named.1)

unfoldable pub switches_in : Network → Data → Result Network NetFault
switches_in net top = do
  items ← need (list_at (codes "switches") top) (Shape Switches 0)
  in_turn switch_at 0 net items

-- ---- ports

-- a port number that a network may use
abbrev pub is_port_number : ℕ → Bool
is_port_number n = nat_le 1 n && nat_le n 65279

-- a port reference
unfoldable pub reference : Network → Field → ℕ → List ℕ → Result Stop NetFault
reference net field place text = do
  parts ← need (reference_parts text) (Shape field place)
  switch ← need (switch_named net.names parts.0) (UnknownSwitch place)
  _ ← check (is_port_number parts.1) (BadPort place)
  Ok (record { switch = record { 0 = switch }; port = record { 0 = parts.1 } })

-- a reference to a port that isn't one of these
unfoldable pub free_port : Network → Field → ℕ → List Stop → List ℕ → Result Stop NetFault
free_port net field place used text = do
  stop ← reference net field place text
  _ ← check (not (list_any (stop_eq stop) used)) (PortTwice place)
  _ ← check (nat_lt (count_by (is_on stop.switch) used) 64) (TooMany field place)
  Ok stop

-- ---- links

-- two texts
abbrev pub two_texts : List Data → Option (List ℕ × List ℕ)
two_texts (a ∷ b ∷ []) = option_and_then (λ s. option_map (λ t. (s, t)) (as_str b)) (as_str a)
two_texts other = None

-- the two ports of one item of `links`
unfoldable pub linked_at : ℕ → Network → Data → Result (Stop × Stop) NetFault
linked_at place net d = do
  texts ← need (option_and_then two_texts (list_in d)) (Shape Links place)
  a ← free_port net Links place (used_ports net) texts.0
  b ← free_port net Links place (used_ports net ++ a ∷ []) texts.1
  Ok (a, b)

-- one item of `links`
unfoldable pub link_at : ℕ → Network → Data → Result Network NetFault
link_at place net d = do
  linked ← linked_at place net d
  Ok (with_link net linked.0 linked.1)

unfoldable pub links_in : Network → Data → Result Network NetFault
links_in net top = do
  items ← need (list_at (codes "links") top) (Shape Links 0)
  in_turn link_at 0 net items

-- ---- host ports

-- the port of one item of `hosts`
unfoldable pub host_port_at : ℕ → Network → Data → Result Stop NetFault
host_port_at place net d = do
  text ← need (as_str d) (Shape Hosts place)
  free_port net Hosts place (used_ports net) text

-- one item of `hosts`
unfoldable pub host_at : ℕ → Network → Data → Result Network NetFault
host_at place net d = do
  stop ← host_port_at place net d
  Ok (with_host net stop)

unfoldable pub hosts_in : Network → Data → Result Network NetFault
hosts_in net top = do
  items ← need (list_at (codes "hosts") top) (Shape Hosts 0)
  in_turn host_at 0 net items

-- ---- VLANs

-- the text `untagged`, or a whole number
abbrev pub vlan_id : Data → Option (Option ℕ)
vlan_id d = option_or (option_and_then (λ text. if bytes_eq text (codes "untagged") then Some None else None) (as_str d)) (option_map Some (whole_in d))

-- untagged, or the id where a VLAN may have it
abbrev pub vlan_with : Option ℕ → Option Vlan
vlan_with None = Some Untagged
vlan_with (Some id) = if is_vlan_id id then Some (Id id) else None

-- the VLAN of one item of `vlans`
unfoldable pub new_vlan_at : ℕ → Network → Data → Result Vlan NetFault
new_vlan_at place net d = do
  _ ← check (nat_lt (length net.vlans) 64) (TooMany Vlans place)
  id ← need (vlan_id d) (Shape Vlans place)
  v ← need (vlan_with id) (BadVlan place)
  _ ← check (not (list_any (vlan_eq v) net.vlans)) (VlanTwice place)
  Ok v

-- one item of `vlans`
unfoldable pub vlan_at : ℕ → Network → Data → Result Network NetFault
vlan_at place net d = do
  v ← new_vlan_at place net d
  Ok (with_vlan net v)

unfoldable pub vlans_in : Network → Data → Result Network NetFault
vlans_in net top = do
  items ← need (list_at (codes "vlans") top) (Shape Vlans 0)
  in_turn vlan_at 0 net items

-- ---- tags

-- two whole numbers as a range
abbrev pub pair_of : Option ℕ → Option ℕ → Option (Option TagRange)
pair_of a b = option_and_then (λ m. option_map (λ n. Some (record { first = m; last = n })) b) a

-- `[]`, or two whole numbers
abbrev pub range_of : List Data → Option (Option TagRange)
range_of [] = Some None
range_of (a ∷ b ∷ []) = pair_of (whole_in a) (whole_in b)
range_of other = None

-- no range, or one of ids in their order
abbrev pub is_range : Option TagRange → Bool
is_range None = true
is_range (Some t) = is_vlan_id t.first && is_vlan_id t.last && nat_le t.first t.last

-- the range of the member `tags`
unfoldable pub range_in : Data → Result (Option TagRange) NetFault
range_in top = do
  range ← need (option_and_then range_of (list_at (codes "tags") top)) (Shape Tags 0)
  _ ← check (is_range range) BadTags
  Ok range

unfoldable pub tags_in : Network → Data → Result Network NetFault
tags_in net top = do
  range ← range_in top
  Ok (with_tags net range)

-- ---- fields

-- no names: the rules of this version test no further fields
unfoldable pub no_names : List Data → Result Unit NetFault
no_names [] = Ok tt
no_names (d ∷ ds) = do
  _ ← need (as_str d) (Shape Fields 0)
  Err (BadField 0)

-- the member `fields`, none where it is absent
unfoldable pub names_in : Option Data → Result Unit NetFault
names_in None = Ok tt
names_in (Some d) = need (list_in d) (Shape Fields 0) >>= λ items. no_names items

-- the member `fields` of a wide network; a narrow one passes it over
unfoldable pub fields_in : Network → Data → Result Network NetFault
fields_in net top = do
  _ ← if net.wide then names_in (get (codes "fields") top) else Ok tt
  Ok net

-- ---- the file

-- the switches and their ports
unfoldable pub ports_in : Bool → Data → Result Network NetFault
ports_in wide top = do
  switches ← switches_in (no_network wide) top
  links ← links_in switches top
  hosts_in links top

-- the members behind `format` in their order
unfoldable pub parts_in : Bool → Data → Result Network NetFault
parts_in wide top = do
  ports ← ports_in wide top
  vlans ← vlans_in ports top
  tags ← tags_in vlans top
  fields_in tags top

-- the members in their order
unfoldable pub members_in : Data → Result Network NetFault
members_in top = do
  _ ← check (is_object top) (Shape Top 0)
  wide ← format_in (get (codes "format") top)
  parts_in wide top

-- the network that the bytes describe, or the first refusal
unfoldable pub network_in : List ℕ → Result Network NetFault
network_in bytes = do
  top ← need (tree_in bytes) NotJson
  members_in top
