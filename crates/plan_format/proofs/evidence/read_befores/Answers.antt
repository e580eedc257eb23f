use Rattle.plan_format.proofs.TurnLaws.{fails_at}
use Rattle.plan_format.proofs.evidence.read_befores.Goals as goal

pub returns-in_err-read_before : goal.returns-in_err-read_before
returns-in_err-read_before c = fails_at _ _ _ _ _ _ _ _ c.loop-i.invariant c.loop-i-test.true c.place_of.ensures c.in_err-read_before.ensures c.from_residual-in_err-read_before.ensures
