use Rattle.std.proofs.Common.{[], map, ap, ◌∙◌}
use Rattle.serde_json.specs.View.{view}
use Rattle.ring_sample.specs.RingTrees.{host_tree}
use Rattle.ring_sample.proofs.Loops.{one_more}
use Rattle.ring_sample.proofs.topology_text.hosts_value.Goals as goal

pub loop-i-preserved : goal.loop-i-preserved
loop-i-preserved c =
    ap (map view) c.in_ok-push.ensures.ok ∙ one_more host_tree [] c.loop-i.values.items c.in_ok-port_value.field-0 c.loop-i.i c.loop-i.invariant c.in_ok-port_value.ensures
