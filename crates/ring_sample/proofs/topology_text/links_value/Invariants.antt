use Rattle.std.proofs.Common.{◌≡◌, map}
use Rattle.std.specs.List.{range_with_len}
use Rattle.serde_json.specs.View.{view}
use Rattle.ring_sample.specs.RingTrees.{link_tree}
use Rattle.ring_sample.proofs.topology_text.links_value.Given as goal

abbrev pub invariant-loop-i : goal.invariant-loop-i
invariant-loop-i l = map view l.values.items ≡ map (link_tree l.switches) (range_with_len 0 l.i)
