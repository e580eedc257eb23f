use Rattle.plan_waits.proofs.WaitTurns.{fails_at}
use Rattle.plan_waits.proofs.read.read_wait_list.Goals as goal

pub returns-in_err-read_wait : goal.returns-in_err-read_wait
returns-in_err-read_wait c = fails_at _ _ _ _ _ _ _ _ c.loop-i.invariant c.loop-i-test.true c.place_of.ensures c.in_err-read_wait.ensures c.from_residual-in_err-read_wait.ensures
