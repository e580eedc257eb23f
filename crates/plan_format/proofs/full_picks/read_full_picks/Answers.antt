use Rattle.plan_format.proofs.TurnLaws.{fails_at}
use Rattle.plan_format.proofs.full_picks.read_full_picks.Goals as goal

pub returns-in_err-read_full_pick : goal.returns-in_err-read_full_pick
returns-in_err-read_full_pick c =
    fails_at _ _ _ _ _ _ _ _ c.loop-i.invariant.so_far c.loop-i-test.true c.place_of.ensures c.in_err-read_full_pick.ensures.value c.from_residual-in_err-read_full_pick.ensures
