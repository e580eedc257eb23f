use Rattle.std.proofs.Common.{◌≡◌, ◌++◌, map}
use Rattle.std.specs.List.{range_with_len}
use Rattle.serde_json.specs.View.{view}
use Rattle.ring_sample.specs.RingTrees.{rule_tree}
use Rattle.ring_sample.proofs.configuration.add_rules.Given as goal

abbrev pub invariant-loop-j : goal.invariant-loop-j
invariant-loop-j l = map view l.values.items ≡ map view l.initial.values.items ++ map (rule_tree l.port l.switch) (range_with_len 0 l.j)
