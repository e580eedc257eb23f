use Rattle.std.proofs.Common.{map}
use Rattle.ring_sample.specs.Ring.{others}
use Rattle.ring_sample.specs.RingTrees.{demand_tree}
use Rattle.ring_sample.proofs.Loops.{group_more}
use Rattle.ring_sample.proofs.policy.demands_value.Goals as goal

pub loop-i-preserved : goal.loop-i-preserved
loop-i-preserved c =
    group_more (λ i. map (demand_tree i) (others i)) c.loop-i.values.items c.add_demands.new.values.items c.loop-i.i c.loop-i.invariant c.in_ok-add_demands.ensures
