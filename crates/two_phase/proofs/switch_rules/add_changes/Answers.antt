use Rattle.two_phase.specs.SwitchRules.{change_by}
use Rattle.two_phase.proofs.StepLaws.{map_added}
use Rattle.two_phase.proofs.switch_rules.add_changes.Goals as goal

pub loop-rule-preserved : goal.loop-rule-preserved
loop-rule-preserved c =
    let rule = c.rule-item.result in
    map_added (change_by c.args.step c.args.s) c.args.rules.now c.loop-rule.rule-index rule rule c.loop-rule-test.true c.rule-item.is c.args.round.now.items c.loop-rule.round.items c.push.new.self.items
    c.change.result c.loop-rule.invariant c.change.ensures c.in_ok-push.ensures.items
