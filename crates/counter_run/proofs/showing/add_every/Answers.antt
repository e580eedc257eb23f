use Rattle.counter_run.proofs.AddLaws.{every_more}
use Rattle.counter_run.proofs.showing.add_every.Goals as goal

pub loop-i-preserved : goal.loop-i-preserved
loop-i-preserved c = every_more c.loop-i.i c.args.events.now c.loop-i.events c.add.new.self c.loop-i.invariant c.in_ok-add.ensures.ok
