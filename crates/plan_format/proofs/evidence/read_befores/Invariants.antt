use Rattle.std.proofs.Common.{◌≡◌, map, drop}
use Rattle.flat_json.specs.Trees.{data_of}
use Rattle.net_base.specs.Reading.{in_turn}
use Rattle.plan_format.specs.Evidence.{before_at, befores_in}
use Rattle.plan_format.proofs.evidence.read_befores.Given as goal

abbrev pub invariant-loop-i : goal.invariant-loop-i
invariant-loop-i l = in_turn (before_at l.net) l.i l.befores (map (data_of l.tree) (drop l.i l.items)) ≡ befores_in l.net (data_of l.tree l.top)
