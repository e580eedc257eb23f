use Rattle.std.specs.Prelude.{flat_map}
use Rattle.two_phase.specs.TwoPhasePlan.{ingress_copy}
use Rattle.two_phase.proofs.StepLaws.{flat_added}
use Rattle.two_phase.proofs.bands.add_host_copies.Goals as goal

pub loop-rule-preserved : goal.loop-rule-preserved
loop-rule-preserved c =
    flat_added (λ r. flat_map (ingress_copy c.args.net.now c.args.s c.args.host r) c.args.tags.now) c.args.new.now c.loop-rule.rule-index c.rule-item.result c.rule-item.result c.loop-rule-test.true c.rule-item.is
    c.args.rules.now.items c.loop-rule.rules.items c.add_ingress_copies.new.rules.items c.loop-rule.invariant c.in_ok-add_ingress_copies.ensures
