use Rattle.two_phase.proofs.DeepLaws.{greatest_next}
use Rattle.two_phase.proofs.deep_rules.greatest_depth.Goals as goal

pub loop-rule-preserved : goal.loop-rule-preserved
loop-rule-preserved c =
    greatest_next c.args.depth c.args.rules.now c.loop-rule.rule-index c.rule-item.result c.loop-rule-test.true c.rule-item.is c.loop-rule.greatest c.max-greatest.result c.loop-rule.invariant c.max-greatest.ensures
