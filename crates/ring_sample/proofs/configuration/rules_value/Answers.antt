use Rattle.std.proofs.Common.{map}
use Rattle.ring_sample.specs.Ring.{destinations}
use Rattle.ring_sample.specs.RingTrees.{rule_tree}
use Rattle.ring_sample.proofs.Loops.{group_more}
use Rattle.ring_sample.proofs.configuration.rules_value.Goals as goal

pub loop-i-preserved : goal.loop-i-preserved
loop-i-preserved c =
    group_more (λ i. map (rule_tree c.args.port i) destinations) c.loop-i.values.items c.add_rules.new.values.items c.loop-i.i c.loop-i.invariant c.in_ok-add_rules.ensures
