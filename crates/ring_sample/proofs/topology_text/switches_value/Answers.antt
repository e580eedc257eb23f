use Rattle.std.proofs.Common.{[], map, ap, ◌∙◌}
use Rattle.serde_json.specs.View.{view}
use Rattle.ring_sample.specs.RingTrees.{switch_tree}
use Rattle.ring_sample.proofs.Loops.{one_more}
use Rattle.ring_sample.proofs.topology_text.switches_value.Goals as goal

pub loop-i-preserved : goal.loop-i-preserved
loop-i-preserved c =
    ap (map view) c.in_ok-push.ensures.ok ∙ one_more switch_tree [] c.loop-i.values.items c.in_ok-switch_value.field-0 c.loop-i.i c.loop-i.invariant c.in_ok-switch_value.ensures
