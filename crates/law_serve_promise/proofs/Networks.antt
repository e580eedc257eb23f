-- A network that is read keeps what every network keeps.
use Rattle.std.proofs.Common.{◌≡◌, ℕ, ◌<◌, ◌≤◌, Bool, true, false, Ok, List, [], ◌∷◌, ◌++◌, length, cond, refl, subst, arith}
use Rattle.std.specs.Prelude.{Option, Some, None, not, nat_lt, is_none, codes, count_by, option_and_then, IfSome, if◌then◌else◌}
use Rattle.std.specs.List.{list_any}
use Rattle.std.proofs.lemmas.Bool.{and_parts, ltb-true, leb-true, not-true}
use Rattle.serde_json.specs.Data.{Data}
use Rattle.serde_json.specs.Find.{get, as_str}
use Rattle.net_base.specs.declared.ids.Stop.{Stop}
use Rattle.net_base.specs.declared.ids.Vlan.{Vlan}
use Rattle.net_base.specs.declared.ids.Vlan.TheVariants.{Untagged, Id}
use Rattle.net_base.specs.declared.field.Field.{Field}
use Rattle.net_base.specs.declared.field.Field.TheVariants as field
use Rattle.net_base.specs.Reading.{in_turn}
use Rattle.net_base.proofs.Turns.{bind_ok, ok_is, in_turn-keeps}
use Rattle.flat_json.specs.JsonTree.{is_object, text_at, whole_at, list_in, list_at, tree_in}
use Rattle.config_files.proofs.Steps.{need_passed, check_passed}
use Rattle.topology.specs.Networks.{Network, TagRange, IsNetwork, switch_named, used_ports, is_on, stop_eq, vlan_eq, is_name, is_capacity, is_vlan_id, IsVlanId, IsVlan}
use Rattle.topology.proofs.NamedLaws.{named_within}
use Rattle.topology.specs.Ends.{IsPort}
use Rattle.topology.specs.Growth.{no_network, with_switch, with_link, with_host, with_vlan, with_tags}
use Rattle.topology.specs.References.{reference_parts}
use Rattle.topology.proofs.GrowthLaws.{switch_kept, link_kept, host_kept, vlan_kept, tags_kept}
use Rattle.topology_files.specs.declared.fault.NetFault.{NetFault}
use Rattle.topology_files.specs.declared.fault.NetFault.TheVariants as fault
use Rattle.topology_files.specs.Topology.{name_at, named_at, switch_at, switches_in, is_port_number, reference, free_port, two_texts, linked_at, link_at, links_in, host_port_at, host_at, hosts_in, vlan_id, vlan_with, new_vlan_at, vlan_at, vlans_in, range_of, is_range, range_in, tags_in, names_in, fields_in, ports_in, parts_in, format_in, members_in, network_in}
use Rattle.net_base.specs.Switches.{most_switches}

none_is : {A : Type 0} (o : Option A) → is_none o ≡ true → o ≡ None
none_is None e = refl
none_is (Some x) e = absurd (let f : false ≡ true = e in cc)

-- ---- switches

-- the name and the capacity of a new switch
record IsNewSwitch (net : Network) (v : List ℕ × ℕ) : Type 0 where
  room : length net.names < most_switches
  form : is_name v.0 ≡ true
  new : switch_named net.names v.0 ≡ None
  within : is_capacity v.1 ≡ true

name_shown : (place : ℕ) (net : Network) (d : Data) (name : List ℕ) → name_at place net d ≡ Ok name → (is_name name ≡ true) × (switch_named net.names name ≡ None)
unfolding name_at
name_shown place net d name e =
    let (object, e1) = check_passed (is_object d) (fault.Shape field.Switches place) _ name e in
    let (text, there, e2) = need_passed (text_at (codes "name") d) (fault.Shape field.Name place) _ name e1 in
    let (form, e3) = check_passed (is_name text) (fault.BadName place) _ name e2 in
    let (new, e4) = check_passed (is_none (switch_named net.names text)) (fault.DoubleName place) _ name e3 in
    let same = ok_is {E = NetFault} text name e4 in
    (subst (λ (n : List ℕ). is_name n ≡ true) same form, subst (λ (n : List ℕ). switch_named net.names n ≡ None) same (none_is (switch_named net.names text) new))

named_shown : (place : ℕ) (net : Network) (d : Data) (v : List ℕ × ℕ) → named_at place net d ≡ Ok v → IsNewSwitch net v
unfolding named_at
named_shown place net d v e =
    let (room, e1) = check_passed (nat_lt (length net.names) most_switches) (fault.TooMany field.Switches place) _ v e in
    let (name, read, e2) = bind_ok (name_at place net d) _ v e1 in
    let (capacity, there, e3) = need_passed (whole_at (codes "capacity") d) (fault.Shape field.Capacity place) _ v e2 in
    let (within, e4) = check_passed (is_capacity capacity) (fault.BadCapacity place) _ v e3 in
    let (form, new) = name_shown place net d name read in
    subst (IsNewSwitch net) (ok_is {E = NetFault} (name, capacity) v e4) (record { room = ltb-true (length net.names) most_switches room; form = form; new = new; within = within })

switch_keeps : (place : ℕ) (net more : Network) (d : Data) → IsNetwork net → switch_at place net d ≡ Ok more → IsNetwork more
unfolding switch_at
switch_keeps place net more d is e =
    let (named, read, e1) = bind_ok (named_at place net d) (λ named. Ok (with_switch net named.0 named.1)) more e in
    let new = named_shown place net d named read in
    subst IsNetwork (ok_is {E = NetFault} (with_switch net named.0 named.1) more e1) (switch_kept net is named.0 named.1 new.room new.form new.new new.within)

switches_keep : (net more : Network) (top : Data) → IsNetwork net → switches_in net top ≡ Ok more → IsNetwork more
unfolding switches_in
switches_keep net more top is e =
    let (items, there, e1) = need_passed (list_at (codes "switches") top) (fault.Shape field.Switches 0) (λ items. in_turn switch_at 0 net items) more e in
    in_turn-keeps switch_at IsNetwork (λ n s t x p read. switch_keeps n s t x p read) 0 net more items is e1

-- ---- ports

-- a port that isn't one of these, of a switch with room for it
record IsFreePort (net : Network) (used : List Stop) (stop : Stop) : Type 0 where
  port : IsPort net stop
  free : list_any (stop_eq stop) used ≡ false
  room : count_by (is_on stop.switch) used < 64

reference_shown : (net : Network) (of : Field) (place : ℕ) (text : List ℕ) (stop : Stop) → reference net of place text ≡ Ok stop → IsPort net stop
unfolding reference
reference_shown net of place text stop e =
    let (parts, there, e1) = need_passed (reference_parts text) (fault.Shape of place) _ stop e in
    let (switch, named, e2) = need_passed (switch_named net.names parts.0) (fault.UnknownSwitch place) _ stop e1 in
    let (number, e3) = check_passed (is_port_number parts.1) (fault.BadPort place) _ stop e2 in
    let (low, high) = and_parts _ _ number in
    subst (IsPort net) (ok_is {E = NetFault} (record { switch = record { 0 = switch }; port = record { 0 = parts.1 } }) stop e3) (named_within net.names parts.0 switch named, (leb-true 1 parts.1 low, leb-true parts.1 65279 high))

free_shown : (net : Network) (of : Field) (place : ℕ) (used : List Stop) (text : List ℕ) (stop : Stop) → free_port net of place used text ≡ Ok stop → IsFreePort net used stop
unfolding free_port
free_shown net of place used text stop e =
    let (port, read, e1) = bind_ok (reference net of place text) _ stop e in
    let (free, e2) = check_passed (not (list_any (stop_eq port) used)) (fault.PortTwice place) _ stop e1 in
    let (room, e3) = check_passed (nat_lt (count_by (is_on port.switch) used) 64) (fault.TooMany of place) _ stop e2 in
    subst (IsFreePort net used) (ok_is {E = NetFault} port stop e3) (record {
      port = reference_shown net of place text port read;
      free = not-true (list_any (stop_eq port) used) free;
      room = ltb-true (count_by (is_on port.switch) used) 64 room;
    })

linked_shown : (place : ℕ) (net : Network) (d : Data) (v : Stop × Stop) → linked_at place net d ≡ Ok v → IsFreePort net (used_ports net) v.0 × IsFreePort net (used_ports net ++ v.0 ∷ []) v.1
unfolding linked_at
linked_shown place net d v e =
    let (texts, there, e1) = need_passed (option_and_then two_texts (list_in d)) (fault.Shape field.Links place) _ v e in
    let (a, first, e2) = bind_ok (free_port net field.Links place (used_ports net) texts.0) _ v e1 in
    let (b, second, e3) = bind_ok (free_port net field.Links place (used_ports net ++ a ∷ []) texts.1) _ v e2 in
    subst (λ (w : Stop × Stop). IsFreePort net (used_ports net) w.0 × IsFreePort net (used_ports net ++ w.0 ∷ []) w.1) (ok_is {E = NetFault} (a, b) v e3)
    (free_shown net field.Links place (used_ports net) texts.0 a first, free_shown net field.Links place (used_ports net ++ a ∷ []) texts.1 b second)

link_keeps : (place : ℕ) (net more : Network) (d : Data) → IsNetwork net → link_at place net d ≡ Ok more → IsNetwork more
unfolding link_at
link_keeps place net more d is e =
    let (linked, read, e1) = bind_ok (linked_at place net d) (λ linked. Ok (with_link net linked.0 linked.1)) more e in
    let (a, b) = linked_shown place net d linked read in
    subst IsNetwork (ok_is {E = NetFault} (with_link net linked.0 linked.1) more e1) (link_kept net is linked.0 linked.1 a.port b.port a.free b.free a.room b.room)

links_keep : (net more : Network) (top : Data) → IsNetwork net → links_in net top ≡ Ok more → IsNetwork more
unfolding links_in
links_keep net more top is e =
    let (items, there, e1) = need_passed (list_at (codes "links") top) (fault.Shape field.Links 0) (λ items. in_turn link_at 0 net items) more e in
    in_turn-keeps link_at IsNetwork (λ n s t x p read. link_keeps n s t x p read) 0 net more items is e1

host_port_shown : (place : ℕ) (net : Network) (d : Data) (stop : Stop) → host_port_at place net d ≡ Ok stop → IsFreePort net (used_ports net) stop
unfolding host_port_at
host_port_shown place net d stop e =
    let (text, there, e1) = need_passed (as_str d) (fault.Shape field.Hosts place) (λ text. free_port net field.Hosts place (used_ports net) text) stop e in
    free_shown net field.Hosts place (used_ports net) text stop e1

host_keeps : (place : ℕ) (net more : Network) (d : Data) → IsNetwork net → host_at place net d ≡ Ok more → IsNetwork more
unfolding host_at
host_keeps place net more d is e =
    let (stop, read, e1) = bind_ok (host_port_at place net d) (λ stop. Ok (with_host net stop)) more e in
    let new = host_port_shown place net d stop read in
    subst IsNetwork (ok_is {E = NetFault} (with_host net stop) more e1) (host_kept net is stop new.port new.free new.room)

hosts_keep : (net more : Network) (top : Data) → IsNetwork net → hosts_in net top ≡ Ok more → IsNetwork more
unfolding hosts_in
hosts_keep net more top is e =
    let (items, there, e1) = need_passed (list_at (codes "hosts") top) (fault.Shape field.Hosts 0) (λ items. in_turn host_at 0 net items) more e in
    in_turn-keeps host_at IsNetwork (λ n s t x p read. host_keeps n s t x p read) 0 net more items is e1

-- ---- VLANs and tags

id_shown : (id : ℕ) → is_vlan_id id ≡ true → IsVlanId id
id_shown id e = let (low, high) = and_parts _ _ e in (leb-true 1 id low, leb-true id 4094 high)

vlan_shown : (id : Option ℕ) (v : Vlan) → vlan_with id ≡ Some v → IsVlan v
vlan_shown None v e = let f : Some Untagged ≡ Some v = e in let g : Untagged ≡ v = cc in subst IsVlan g tt
vlan_shown (Some id) v e = some_vlan (is_vlan_id id) refl e
  where
    some_vlan : (b : Bool) → is_vlan_id id ≡ b → cond b (Some (Id id)) None ≡ Some v → IsVlan v
    some_vlan true is f = let g : Id id ≡ v = cc in subst IsVlan g (id_shown id is)
    some_vlan false is f = absurd (let g : None ≡ Some v = f in cc)

vlan_keeps : (place : ℕ) (net more : Network) (d : Data) → IsNetwork net → vlan_at place net d ≡ Ok more → IsNetwork more
unfolding vlan_at new_vlan_at
vlan_keeps place net more d is e =
    let (v, read, e1) = bind_ok (new_vlan_at place net d) (λ v. Ok (with_vlan net v)) more e in
    let (room, e2) = check_passed (nat_lt (length net.vlans) 64) (fault.TooMany field.Vlans place) _ v read in
    let (id, there, e3) = need_passed (vlan_id d) (fault.Shape field.Vlans place) _ v e2 in
    let (w, with, e4) = need_passed (vlan_with id) (fault.BadVlan place) _ v e3 in
    let (new, e5) = check_passed (not (list_any (vlan_eq w) net.vlans)) (fault.VlanTwice place) _ v e4 in
    let same = ok_is {E = NetFault} w v e5 in
    let kept = vlan_kept net is w (ltb-true (length net.vlans) 64 room) (vlan_shown id w with) (not-true (list_any (vlan_eq w) net.vlans) new) in
    subst IsNetwork (ok_is {E = NetFault} (with_vlan net v) more e1) (subst (λ (x : Vlan). IsNetwork (with_vlan net x)) same kept)

vlans_keep : (net more : Network) (top : Data) → IsNetwork net → vlans_in net top ≡ Ok more → IsNetwork more
unfolding vlans_in
vlans_keep net more top is e =
    let (items, there, e1) = need_passed (list_at (codes "vlans") top) (fault.Shape field.Vlans 0) (λ items. in_turn vlan_at 0 net items) more e in
    in_turn-keeps vlan_at IsNetwork (λ n s t x p read. vlan_keeps n s t x p read) 0 net more items is e1

range_shown : (range : Option TagRange) → is_range range ≡ true → IfSome range (λ t. IsVlanId t.first × IsVlanId t.last × (t.first ≤ t.last))
range_shown None e = tt
range_shown (Some t) e =
    let (ids, order) = and_parts _ _ e in
    let (first, last) = and_parts _ _ ids in
    (id_shown t.first first, id_shown t.last last, leb-true t.first t.last order)

tags_keep : (net more : Network) (top : Data) → IsNetwork net → tags_in net top ≡ Ok more → IsNetwork more
unfolding tags_in range_in
tags_keep net more top is e =
    let (range, read, e1) = bind_ok (range_in top) (λ range. Ok (with_tags net range)) more e in
    let (given, there, e2) = need_passed (option_and_then range_of (list_at (codes "tags") top)) (fault.Shape field.Tags 0) _ range read in
    let (right, e3) = check_passed (is_range given) fault.BadTags _ range e2 in
    subst IsNetwork (ok_is {E = NetFault} (with_tags net range) more e1) (tags_kept net is range (range_shown range (subst (λ (r : Option TagRange). is_range r ≡ true) (ok_is {E = NetFault} given range e3) right)))

-- ---- the file

none_kept : (wide : Bool) → IsNetwork (no_network wide)
none_kept wide = record {
  same_count = refl;
  few = omega arith;
  names = tt;
  name_forms = tt;
  capacities = tt;
  ports_once = tt;
  ports = tt;
  few_ports = λ s. omega arith;
  vlans_once = tt;
  vlans = tt;
  few_vlans = omega arith;
  tags = tt;
}

ports_keep : (wide : Bool) (top : Data) (net : Network) → ports_in wide top ≡ Ok net → IsNetwork net
unfolding ports_in
ports_keep wide top net e =
    let (switches, first, e1) = bind_ok (switches_in (no_network wide) top) _ net e in
    let (links, second, e2) = bind_ok (links_in switches top) (λ links. hosts_in links top) net e1 in
    hosts_keep links net top (links_keep switches links top (switches_keep (no_network wide) switches top (none_kept wide) first) second) e2

fields_keep : (net more : Network) (top : Data) → IsNetwork net → fields_in net top ≡ Ok more → IsNetwork more
unfolding fields_in
fields_keep net more top is e =
    let (passed, read, e1) = bind_ok (if net.wide then names_in (get (codes "fields") top) else Ok tt) (λ passed. Ok net) more e in
    subst IsNetwork (ok_is {E = NetFault} net more e1) is

parts_keep : (wide : Bool) (top : Data) (net : Network) → parts_in wide top ≡ Ok net → IsNetwork net
unfolding parts_in
parts_keep wide top net e =
    let (ports, first, e1) = bind_ok (ports_in wide top) _ net e in
    let (vlans, second, e2) = bind_ok (vlans_in ports top) _ net e1 in
    let (tags, third, e3) = bind_ok (tags_in vlans top) (λ tags. fields_in tags top) net e2 in
    fields_keep tags net top (tags_keep vlans tags top (vlans_keep ports vlans top (ports_keep wide top ports first) second) third) e3

pub network_keeps : (bytes : List ℕ) (net : Network) → network_in bytes ≡ Ok net → IsNetwork net
unfolding network_in members_in
network_keeps bytes net e =
    let (top, there, e1) = need_passed (tree_in bytes) fault.NotJson (λ top. members_in top) net e in
    let (object, e2) = check_passed (is_object top) (fault.Shape field.Top 0) _ net e1 in
    let (wide, format, e3) = bind_ok (format_in (get (codes "format") top)) (λ wide. parts_in wide top) net e2 in
    parts_keep wide top net e3
