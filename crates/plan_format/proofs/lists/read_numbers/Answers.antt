use Rattle.plan_format.proofs.TurnLaws.{goes_further, fails}
use Rattle.plan_format.proofs.lists.read_numbers.Goals as goal

pub returns-in_err-read_number : goal.returns-in_err-read_number
returns-in_err-read_number c = fails _ _ _ _ _ _ _ _ c.loop-number.invariant c.loop-number-test.true c.in_err-read_number.ensures c.from_residual-in_err-read_number.ensures

pub loop-number-preserved : goal.loop-number-preserved
loop-number-preserved c = goes_further _ _ _ _ _ _ c.loop-number.invariant c.loop-number-test.true c.in_ok-read_number.ensures
