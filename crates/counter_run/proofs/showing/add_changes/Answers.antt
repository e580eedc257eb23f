use Rattle.std.proofs.Common.{arith}
use Rattle.counter_run.proofs.AddLaws.{changes_more}
use Rattle.counter_run.proofs.showing.add_changes.Goals as goal

pub loop-i-preserved : goal.loop-i-preserved
loop-i-preserved c =
    changes_more c.args.numbers.now c.loop-i.i-index c.args.events.now c.loop-i.events c.add.new.self (omega arith) c.loop-i.invariant c.in_ok-add.ensures.ok
