use Rattle.std.proofs.Common.{◌≡◌, [], map, drop}
use Rattle.flat_json.specs.Trees.{data_of}
use Rattle.net_base.specs.Reading.{in_turn}
use Rattle.demands.specs.Policy.{demand_at}
use Rattle.demands.proofs.read.read_each_demand.Given as goal

abbrev pub invariant-loop-i : goal.invariant-loop-i
invariant-loop-i l = in_turn (demand_at l.net) l.i l.demands (map (data_of l.tree) (drop l.i l.items)) ≡ in_turn (demand_at l.net) 0 [] (map (data_of l.tree) l.items)
