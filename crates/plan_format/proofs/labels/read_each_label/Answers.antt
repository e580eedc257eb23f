use Rattle.plan_format.proofs.TurnLaws.{goes_further, fails}
use Rattle.plan_format.proofs.labels.read_each_label.Goals as goal

pub returns-in_err-read_label : goal.returns-in_err-read_label
returns-in_err-read_label c = fails _ _ _ _ _ _ _ _ c.loop-item.invariant c.loop-item-test.true c.in_err-read_label.ensures c.from_residual-in_err-read_label.ensures

pub loop-item-preserved : goal.loop-item-preserved
loop-item-preserved c = goes_further _ _ _ _ _ _ c.loop-item.invariant c.loop-item-test.true c.in_ok-read_label.ensures
