use Rattle.plan_format.proofs.TurnLaws.{fails_at}
use Rattle.plan_format.proofs.picks.read_uses.Goals as goal

pub returns-in_err-read_use : goal.returns-in_err-read_use
returns-in_err-read_use c = fails_at _ _ _ _ _ _ _ _ c.loop-i.invariant c.loop-i-test.true c.place_of.ensures c.in_err-read_use.ensures c.from_residual-in_err-read_use.ensures
