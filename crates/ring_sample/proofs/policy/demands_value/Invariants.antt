use Rattle.std.proofs.Common.{◌≡◌, map}
use Rattle.std.specs.Prelude.{flat_map}
use Rattle.std.specs.List.{range_with_len}
use Rattle.serde_json.specs.View.{view}
use Rattle.ring_sample.specs.Ring.{others}
use Rattle.ring_sample.specs.RingTrees.{demand_tree}
use Rattle.ring_sample.proofs.policy.demands_value.Given as goal

abbrev pub invariant-loop-i : goal.invariant-loop-i
invariant-loop-i l = map view l.values.items ≡ flat_map (λ i. map (demand_tree i) (others i)) (range_with_len 0 l.i)
