-- What contracts see of a network.
use Rattle.std.specs.Prelude.{◌≡◌, option_map}
use Rattle.topology.specs.Networks.{Network, IsNetwork}
use Rattle.topology.specs.Ends.{port_ends}
use Rattle.topology.specs.declared.net.Net.TheInside.{Inside}

-- the lists of the fields, names as their bytes
abbrev pub network_of : Inside → Network
network_of n = record {
  names = n.switches.names;
  capacities = n.switches.capacities;
  links = n.links.items;
  hosts = n.hosts.items;
  vlans = n.vlans.items;
  tags = option_map (λ t. record { first = t.0; last = t.1 }) n.tags;
  wide = n.wide;
}

-- the rules of networks, and each port found by its number
pub record IsNetKept (n : Inside) : Type 0 where
  pub network : IsNetwork (network_of n)
  pub ends : n.ends ≡ port_ends n.links.items n.hosts.items
