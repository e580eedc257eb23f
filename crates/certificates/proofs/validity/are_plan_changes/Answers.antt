use Rattle.std.proofs.Common.{arith}
use Rattle.update_model.specs.Ranges.{IsPlanChange}
use Rattle.certificates.proofs.Chains.{granted, all_from, all_more, all_refused}
use Rattle.certificates.proofs.validity.are_plan_changes.Goals as goal

pub returns-then-not-is_plan_change : goal.returns-then-not-is_plan_change
returns-then-not-is_plan_change c =
    all_refused (IsPlanChange c.args.net.now) c.args.changes.now c.loop-change.change-index c.change-item.result c.is_plan_change.result c.loop-change-test.true c.change-item.is c.if-not-is_plan_change.true c.is_plan_change.ensures

pub loop-change-preserved : goal.loop-change-preserved
loop-change-preserved c =
    all_more (IsPlanChange c.args.net.now) c.args.changes.now c.loop-change.change-index c.change-item.result c.loop-change-test.true c.change-item.is (c.is_plan_change.ensures.0 c.if-not-is_plan_change.false) c.loop-change.invariant

pub returns : goal.returns
returns c = let past = c.loop-change-test.false in granted (all_from (IsPlanChange c.args.net.now) c.args.changes.now (λ k d lt. c.loop-change.invariant k d (omega arith)))
