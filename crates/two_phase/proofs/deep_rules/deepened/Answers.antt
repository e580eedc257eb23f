use Rattle.two_phase.proofs.DeepLaws.{deeper_value, deeper_shallow, deeper_count}
use Rattle.two_phase.proofs.deep_rules.deepened.Goals as goal

pub loop-rule-preserved : goal.loop-rule-preserved
loop-rule-preserved c =
    let rules = c.args.rules.now in
    let i = c.loop-rule.rule-index in
    let deep = c.loop-rule.deep.items in
    let after = c.push.new.self.items in
    let r = c.rule-item.result in
    let depth = c.next_depth-depth.result in
    let (values, shallow, count) = c.loop-rule.invariant in (
      λ all table same. deeper_value all table rules same i r c.loop-rule-test.true c.rule-item.is deep c.deref.result.now after depth c.deref.ensures.value (values all table same) c.next_depth-depth.ensures.value c.in_ok-push.ensures.items,
      deeper_shallow i r deep c.deref.result.now after depth c.deref.ensures.value count shallow c.next_depth-depth.ensures.few c.in_ok-push.ensures.items,
      deeper_count i r deep after depth count c.in_ok-push.ensures.items,
    )
