-- A network that is built step by step.
use Rattle.std.specs.Prelude.{ℕ, Bool, List, [], ◌∷◌, ◌++◌, Option, None}
use Rattle.net_base.specs.declared.ids.Stop.{Stop}
use Rattle.net_base.specs.declared.ids.Vlan.{Vlan}
use Rattle.topology.specs.Networks.{Network, TagRange}

-- no switch, link, host port, VLAN or tag, in a wide network or a narrow one
abbrev pub no_network : Bool → Network
no_network wide = record { names = []; capacities = []; links = []; hosts = []; vlans = []; tags = None; wide = wide }

-- with one switch more
abbrev pub with_switch : Network → List ℕ → ℕ → Network
with_switch net name capacity = record net { names = net.names ++ name ∷ []; capacities = net.capacities ++ capacity ∷ [] }

-- with one link more
abbrev pub with_link : Network → Stop → Stop → Network
with_link net a b = record net { links = net.links ++ record { one = a; other = b } ∷ [] }

-- with one host port more
abbrev pub with_host : Network → Stop → Network
with_host net stop = record net { hosts = net.hosts ++ stop ∷ [] }

-- with one declared VLAN more
abbrev pub with_vlan : Network → Vlan → Network
with_vlan net v = record net { vlans = net.vlans ++ v ∷ [] }

-- with this tag range
abbrev pub with_tags : Network → Option TagRange → Network
with_tags net range = record net { tags = range }
