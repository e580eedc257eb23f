use Rattle.plan_format.proofs.TurnLaws.{goes_further, fails}
use Rattle.plan_format.proofs.evidence.read_numbering.Goals as goal

pub returns-in_err-read_height : goal.returns-in_err-read_height
returns-in_err-read_height c = fails _ _ _ _ _ _ _ _ c.loop-height.invariant c.loop-height-test.true c.in_err-read_height.ensures c.from_residual-in_err-read_height.ensures

pub loop-height-preserved : goal.loop-height-preserved
loop-height-preserved c = goes_further _ _ _ _ _ _ c.loop-height.invariant c.loop-height-test.true c.in_ok-read_height.ensures
