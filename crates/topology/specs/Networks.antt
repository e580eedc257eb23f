-- Networks: switches, two-way links, host ports, declared VLANs and available tags.
use Rattle.std.specs.Prelude.{◌≡◌, ◌≢◌, ℕ, ◌<◌, ◌≤◌, ◌==◌, ◌&&◌, Bool, cond, List, [], ◌∷◌, ◌++◌, length, flat_map, Option, None, Some, slice_index_or, IfSome, ◌||◌, not, nat_le, IsTrue, filter, position, true, false}
use Rattle.std.specs.List.{AllByRecursion, list_all, list_any}
use Rattle.std.specs.Str.{bytes_eq}
use Rattle.net_base.specs.Members.{IsIn, IsDistinct}
use Rattle.net_base.specs.declared.ids.SwitchId.{SwitchId}
use Rattle.net_base.specs.declared.ids.Stop.{Stop}
use Rattle.net_base.specs.declared.ids.Place.{Place}
use Rattle.net_base.specs.declared.ids.Vlan.{Vlan}
use Rattle.net_base.specs.declared.ids.Vlan.TheVariants as vlan
use Rattle.topology.specs.declared.net.Link.{Link}
use Rattle.topology.specs.declared.net.End.{End}
use Rattle.topology.specs.declared.net.End.TheVariants as at
use Rattle.net_base.specs.Switches.{most_switches}

-- the ids from the first to the last
pub record TagRange : Type 0 where
  pub first : ℕ
  pub last : ℕ

-- a network; a switch is its place in the lists of names and capacities; it is wide where its topology has format 2
pub record Network : Type 0 where
  pub names : List (List ℕ)
  pub capacities : List ℕ
  pub links : List Link
  pub hosts : List Stop
  pub vlans : List Vlan
  pub tags : Option TagRange
  pub wide : Bool

-- how many switches there are
abbrev pub switch_count : Network → ℕ
switch_count net = length net.names

-- the greatest number of table entries of a switch
abbrev pub capacity_of : Network → SwitchId → ℕ
capacity_of net s = slice_index_or net.capacities s.0 0

-- whether two stops are the same port of the same switch
abbrev pub stop_eq : Stop → Stop → Bool
stop_eq a b = a.switch.0 == b.switch.0 && a.port.0 == b.port.0

-- whether the port is one of the switch
abbrev pub is_on : SwitchId → Stop → Bool
is_on switch stop = stop.switch.0 == switch.0

-- whether two VLANs are the same
abbrev pub vlan_eq : Vlan → Vlan → Bool
vlan_eq vlan.Untagged vlan.Untagged = true
vlan_eq (vlan.Id m) (vlan.Id n) = m == n
vlan_eq _ _ = false

-- where the link at a port leads
abbrev pub far_end : Stop → List Link → End
far_end stop [] = at.Nothing
far_end stop (l ∷ ls) =
    cond (stop_eq stop l.one) (at.Link l.other.switch l.other.port)
    (cond (stop_eq stop l.other) (at.Link l.one.switch l.one.port) (far_end stop ls))

-- what is at a port: a host port, one end of a link, or nothing
abbrev pub end_at : Network → Stop → End
end_at net stop = cond (list_any (stop_eq stop) net.hosts) at.Host (far_end stop net.links)

-- the ports that are in use, each as often as it is named
abbrev pub used_ports : Network → List Stop
used_ports net = net.hosts ++ flat_map (λ l. l.one ∷ l.other ∷ []) net.links

-- a port number that a network may use
abbrev pub IsPortNumber : ℕ → Type 0
IsPortNumber p = (1 ≤ p) × (p ≤ 65279)

-- an id that a tag may have
abbrev pub IsVlanId : ℕ → Type 0
IsVlanId id = (1 ≤ id) × (id ≤ 4094)

-- whether a number is such an id
abbrev pub is_vlan_id : ℕ → Bool
is_vlan_id id = nat_le 1 id && nat_le id 4094

-- untagged, or an id that a tag may have
abbrev pub IsVlan : Vlan → Type 0
IsVlan vlan.Untagged = Unit {0}
IsVlan (vlan.Id id) = IsVlanId id

-- the port is used by a host or a link
abbrev pub IsUsed : Network → Stop → Type 0
IsUsed net stop = IsIn stop (used_ports net)

-- whether the port is used by a host or a link
abbrev pub is_used : Network → Stop → Bool
is_used net stop = list_any (stop_eq stop) (used_ports net)

-- whether the port is a host port
abbrev pub is_host : Network → Stop → Bool
is_host net stop = list_any (stop_eq stop) net.hosts

-- the number of the switch of that name
abbrev pub switch_named : List (List ℕ) → List ℕ → Option ℕ
switch_named names name = position (λ n. bytes_eq name n) names

-- an entry: a host port with a declared VLAN
pub record IsEntry (net : Network) (place : Place) : Type 0 where
  pub host : IsIn (record { switch = place.switch; port = place.port }) net.hosts
  pub declared : IsIn place.vlan net.vlans

-- an id of the tag range that no declared VLAN has
pub record IsAvailableTag (net : Network) (id : ℕ) : Type 0 where
  pub in_range : IfSome net.tags (λ t. (t.first ≤ id) × (id ≤ t.last))
  pub some_range : net.tags ≢ None
  pub undeclared : ¬ IsIn (vlan.Id id) net.vlans

-- whether the id is in the range
abbrev pub in_range : Option TagRange → ℕ → Bool
in_range None id = false
in_range (Some t) id = nat_le t.first id && nat_le id t.last

-- whether the id is an available tag
abbrev pub is_tag : Network → ℕ → Bool
is_tag net id = in_range net.tags id && not (list_any (vlan_eq (vlan.Id id)) net.vlans)

-- a letter, a digit, - or _
abbrev pub is_name_byte : ℕ → Bool
is_name_byte c =
    (nat_le 48 c && nat_le c 57) || (nat_le 65 c && nat_le c 90) || (nat_le 97 c && nat_le c 122) || (c == 45) || (c == 95)

-- 1 to 32 of them
abbrev pub IsName : List ℕ → Type 0
IsName name = (1 ≤ length name) × (length name ≤ 32) × AllByRecursion (λ c. IsTrue (is_name_byte c)) name

-- whether bytes are 1 to 32 of them
abbrev pub is_name : List ℕ → Bool
is_name name = nat_le 1 (length name) && nat_le (length name) 32 && list_all is_name_byte name

-- a capacity that a switch may have
abbrev pub is_capacity : ℕ → Bool
is_capacity n = nat_le 1 n && nat_le n 8192

-- what every network keeps
pub record IsNetwork (net : Network) : Type 0 where
  pub same_count : length net.capacities ≡ length net.names
  pub few : length net.names ≤ most_switches
  pub names : IsDistinct net.names
  pub name_forms : AllByRecursion IsName net.names
  pub capacities : AllByRecursion (λ c. (1 ≤ c) × (c ≤ 8192)) net.capacities
  pub ports_once : IsDistinct (used_ports net)
  pub ports : AllByRecursion (λ stop. (stop.switch.0 < length net.names) × IsPortNumber stop.port.0) (used_ports net)
  pub few_ports : (s : SwitchId) → length (filter (λ stop. stop.switch.0 == s.0) (used_ports net)) ≤ 64
  pub vlans_once : IsDistinct net.vlans
  pub vlans : AllByRecursion IsVlan net.vlans
  pub few_vlans : length net.vlans ≤ 64
  pub tags : IfSome net.tags (λ t. IsVlanId t.first × IsVlanId t.last × (t.first ≤ t.last))
