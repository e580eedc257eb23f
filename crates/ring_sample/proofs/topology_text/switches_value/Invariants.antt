use Rattle.std.proofs.Common.{◌≡◌, map}
use Rattle.std.specs.List.{range_with_len}
use Rattle.serde_json.specs.View.{view}
use Rattle.ring_sample.specs.RingTrees.{switch_tree}
use Rattle.ring_sample.proofs.topology_text.switches_value.Given as goal

abbrev pub invariant-loop-i : goal.invariant-loop-i
invariant-loop-i l = map view l.values.items ≡ map switch_tree (range_with_len 0 l.i)
