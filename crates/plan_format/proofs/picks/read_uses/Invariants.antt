use Rattle.std.proofs.Common.{◌≡◌, map, drop}
use Rattle.flat_json.specs.Trees.{data_of}
use Rattle.net_base.specs.Reading.{in_turn}
use Rattle.plan_format.specs.Evidence.{use_at, uses_in}
use Rattle.plan_format.proofs.picks.read_uses.Given as goal

abbrev pub invariant-loop-i : goal.invariant-loop-i
invariant-loop-i l = in_turn (use_at l.counts.numberings l.counts.befores) l.i l.uses (map (data_of l.tree) (drop l.i l.items)) ≡ uses_in l.counts.numberings l.counts.befores (data_of l.tree l.top)
