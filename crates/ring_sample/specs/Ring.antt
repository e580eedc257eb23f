-- The ring of the sample, as values: switches in a ring, each with a host, and four destinations, to which packets go the one way
-- round before the update and the other way after it.
use Rattle.std.specs.Prelude.{ℕ, ◌+◌, ◌*◌, ◌%◌, ◌^◌, ◌==◌, List, [], ◌∷◌, ◌++◌, map, flat_map, filter, not, true, false, Some, None, codes, decimal, if◌then◌else◌}
use Rattle.std.specs.List.{range_with_len}
use Rattle.net_base.specs.Blocks.{Block}
use Rattle.net_base.specs.declared.ids.Stop.{Stop}
use Rattle.net_base.specs.declared.ids.Vlan.TheVariants.{Untagged}
use Rattle.topology.specs.Networks.{Network}
use Rattle.topology.specs.declared.net.Link.{Link}
use Rattle.flow_rules.specs.declared.rules.VlanTest.TheVariants.{Any}
use Rattle.flow_rules.specs.declared.rules.Rewrite.TheVariants.{Keep}
use Rattle.flow_rules.specs.declared.rules.Action.TheVariants.{Out}
use Rattle.flow_rules.specs.declared.rules.Rule.{Rule}
use Rattle.demands.specs.Duties.{DemandView}
use Rattle.certificates.specs.Updates.{Update}

-- the numbers below n, ascending
abbrev pub numbers_below : ℕ → List ℕ
numbers_below n = range_with_len 0 n

-- ---- the network

-- the name of switch i: `r` and its number
unfoldable pub ring_name : ℕ → List ℕ
ring_name i = codes "r" ++ decimal i

-- a port of switch i
abbrev pub ring_stop : ℕ → ℕ → Stop
ring_stop i port = record { switch = record { 0 = i }; port = record { 0 = port } }

-- port 2 of switch i of n is linked to port 3 of the next one, after the last to that of the first
abbrev pub ring_link : ℕ → ℕ → Link
ring_link n i = record { one = ring_stop i 2; other = ring_stop ((i + 1) % n) 3 }

-- n switches, each with room for 64 entries and a host at port 1; packets come without a tag, and the one tag is 3000
unfoldable pub ring_network : ℕ → Network
ring_network n = record {
  names = map ring_name (numbers_below n);
  capacities = map (λ i. 64) (numbers_below n);
  links = map (ring_link n) (numbers_below n);
  hosts = map (λ i. ring_stop i 1) (numbers_below n);
  vlans = Untagged ∷ [];
  tags = Some (record { first = 3000; last = 3000 });
  wide = false;
}

-- ---- the tables

-- the four destinations; destination j is at switch j
abbrev pub destinations : List ℕ
destinations = 0 ∷ 1 ∷ 2 ∷ 3 ∷ []

-- 10.0.j.0/24
abbrev pub ring_prefix : ℕ → Block
ring_prefix j = record { base = 10 * 2 ^ 24 + j * 2 ^ 8; len = 24 }

-- the rule of switch i for destination j: out of port 1, to the host, where the destination is, and else out of the given port
abbrev pub ring_rule : ℕ → ℕ → ℕ → Rule
ring_rule port i j = record {
  key = record { priority = 100; pattern = record { in_port = None; vlan = Any; dst = ring_prefix j } };
  action = Out (record { 0 = if i == j then 1 else port }) Keep;
}

-- the table of switch i: its rules by destination
abbrev pub ring_table : ℕ → ℕ → List Rule
ring_table port i = map (ring_rule port i) destinations

-- the tables of n switches
unfoldable pub ring_tables : ℕ → ℕ → List (List Rule)
ring_tables n port = map (ring_table port) (numbers_below n)

-- ---- the demands

-- packets from the host at switch i to destination j must arrive
abbrev pub ring_demand : ℕ → ℕ → DemandView
ring_demand i j = record { from = Some (ring_stop i 1 ∷ []); vlan = Any; dst = ring_prefix j; through = []; deliver = true }

-- the destinations at other switches
abbrev pub others : ℕ → List ℕ
others i = filter (λ j. not (j == i)) destinations

-- by switch, and then by destination
unfoldable pub ring_demands : ℕ → List DemandView
ring_demands n = flat_map (λ i. map (ring_demand i) (others i)) (numbers_below n)

-- ---- the update

-- packets go out of port 2 before, and out of port 3 after
abbrev pub ring_update : ℕ → Update
ring_update n = record { net = ring_network n; old = ring_tables n 2; new = ring_tables n 3; demands = ring_demands n }
