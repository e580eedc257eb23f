use Rattle.std.proofs.Common.{arith}
use Rattle.round_tables.proofs.EndLaws.{same_each, same_more}
use Rattle.round_tables.proofs.ends.difference.Goals as goal

pub loop-i-preserved : goal.loop-i-preserved
loop-i-preserved c = same_more c.args.tables.now c.args.others.now c.loop-i.i c.loop-i.invariant (c.are_same_at.ensures.0 c.if-not-are_same_at.false)

pub returns-clause-none : goal.returns-clause-none
returns-clause-none c = same_each c.args.tables.now c.args.others.now c.requires.count (λ s less. c.loop-i.invariant s (omega arith))
