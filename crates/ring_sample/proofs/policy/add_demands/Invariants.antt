use Rattle.std.proofs.Common.{◌≡◌, ◌++◌, map}
use Rattle.std.specs.Prelude.{filter, not, ◌==◌}
use Rattle.std.specs.List.{range_with_len}
use Rattle.serde_json.specs.View.{view}
use Rattle.ring_sample.specs.RingTrees.{demand_tree}
use Rattle.ring_sample.proofs.policy.add_demands.Given as goal

abbrev pub invariant-loop-j : goal.invariant-loop-j
invariant-loop-j l = map view l.values.items ≡ map view l.initial.values.items ++ map (demand_tree l.switch) (filter (λ k. not (k == l.switch)) (range_with_len 0 l.j))
