use Rattle.plan_format.proofs.TurnLaws.{fails_at}
use Rattle.plan_format.proofs.picks.read_picks.Goals as goal

pub returns-in_err-read_pick : goal.returns-in_err-read_pick
returns-in_err-read_pick c = fails_at _ _ _ _ _ _ _ _ c.loop-i.invariant c.loop-i-test.true c.place_of.ensures c.in_err-read_pick.ensures c.from_residual-in_err-read_pick.ensures
