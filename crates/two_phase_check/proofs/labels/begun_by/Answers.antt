use Rattle.std.proofs.Common.{arith}
use Rattle.two_phase_check.proofs.InForceLaws.{begun_more, begun_until, begun_all}
use Rattle.two_phase_check.proofs.labels.begun_by.Goals as goal

pub returns-then-picks-i-clause-begun : goal.returns-then-picks-i-clause-begun
returns-then-picks-i-clause-begun c = begun_until c.args.picks.now c.args.round c.loop-i.i _ c.loop-i-test.true c.requires.ascending c.if-picks-i.true c.loop-i.invariant

pub loop-i-preserved : goal.loop-i-preserved
loop-i-preserved c = begun_more c.args.picks.now c.args.round c.loop-i.i _ c.loop-i-test.true c.if-picks-i.false c.loop-i.invariant

pub returns-clause-begun : goal.returns-clause-begun
returns-clause-begun c = begun_all c.args.picks.now c.args.round c.loop-i.i (let past = c.loop-i-test.false in omega arith) c.loop-i.invariant
