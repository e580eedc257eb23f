use Rattle.std.proofs.Common.{◌≡◌, drop, map}
use Rattle.flat_json.specs.Trees.{data_of}
use Rattle.net_base.specs.Reading.{in_turn}
use Rattle.topology_files.specs.Topology.{vlan_at}
use Rattle.topology_files.proofs.read.read_each_vlan.Given as goal

abbrev pub invariant-loop-i : goal.invariant-loop-i
invariant-loop-i l = in_turn vlan_at l.i l.net (map (data_of l.tree) (drop l.i l.items)) ≡ in_turn vlan_at 0 l.fn.net (map (data_of l.tree) l.items)
