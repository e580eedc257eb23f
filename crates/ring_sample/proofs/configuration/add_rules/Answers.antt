use Rattle.std.proofs.Common.{map, ap, ◌∙◌}
use Rattle.serde_json.specs.View.{view}
use Rattle.ring_sample.specs.RingTrees.{rule_tree}
use Rattle.ring_sample.proofs.Loops.{one_more}
use Rattle.ring_sample.proofs.configuration.add_rules.Goals as goal

pub loop-j-preserved : goal.loop-j-preserved
loop-j-preserved c =
    ap (map view) c.in_ok-push.ensures.ok
    ∙ one_more (rule_tree c.args.port c.args.switch) (map view c.args.values.now.items) c.loop-j.values.items c.in_ok-rule_value.field-0 c.loop-j.j c.loop-j.invariant c.in_ok-rule_value.ensures
