use Rattle.std.proofs.Common.{arith}
use Rattle.flat_json.proofs.NodeTurns.{goes_on_at}
use Rattle.plan_format.proofs.TurnLaws.{fails_at}
use Rattle.plan_format.proofs.changes.read_rounds.Goals as goal

pub returns-in_err-read_next_round-clause-value : goal.returns-in_err-read_next_round-clause-value
returns-in_err-read_next_round-clause-value c =
    fails_at _ _ _ _ _ _ _ _ c.loop-i.invariant.so_far c.loop-i-test.true c.place_of.ensures c.in_err-read_next_round.ensures.value c.from_residual-in_err-read_next_round.ensures

pub loop-i-preserved : goal.loop-i-preserved
loop-i-preserved c = record {
  so_far = goes_on_at _ _ _ _ _ _ _ _ c.loop-i-test.true _ c.place_of.ensures _ c.in_ok-read_next_round.ensures.value c.loop-i.invariant.so_far;
  counted = omega (arith, c.in_ok-read_next_round.ensures.one, c.loop-i.invariant.counted);
}
