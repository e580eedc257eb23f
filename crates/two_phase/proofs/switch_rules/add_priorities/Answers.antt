use Rattle.two_phase.proofs.StepLaws.{map_added}
use Rattle.two_phase.proofs.switch_rules.add_priorities.Goals as goal

pub loop-rule-preserved : goal.loop-rule-preserved
loop-rule-preserved c =
    let rule = c.rule-item.result in
    map_added (λ r. r.key.priority) c.args.rules.now c.loop-rule.rule-index rule rule c.loop-rule-test.true c.rule-item.is c.args.priorities.now.items c.loop-rule.priorities.items c.push.new.self.items
    c.from.result c.loop-rule.invariant c.from.ensures c.in_ok-push.ensures.items
