use Rattle.plan_format.proofs.TurnLaws.{fails_at}
use Rattle.plan_format.proofs.changes.read_round.Goals as goal

pub returns-in_err-read_change-clause-value : goal.returns-in_err-read_change-clause-value
returns-in_err-read_change-clause-value c =
    fails_at _ _ _ _ _ _ _ _ c.loop-change.invariant.so_far c.loop-change-test.true c.place_of.ensures c.in_err-read_change.ensures.value c.from_residual-in_err-read_change.ensures
