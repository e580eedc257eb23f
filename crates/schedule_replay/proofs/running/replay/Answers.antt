use Rattle.schedule_replay.proofs.ReplayLaws.{carried_more}
use Rattle.schedule_replay.proofs.running.replay.Goals as goal

pub loop-line-preserved : goal.loop-line-preserved
loop-line-preserved c =
    let made = rw c.list-line-items.ensures at c.in_ok-step_line.ensures in
    let lt = rw c.list-line-items.ensures at c.loop-line-test.true in
    carried_more c.args.world.now c.loop-line.world c.step_line.new.world c.args.schedule.now c.loop-line.line-index _ lt c.loop-line.invariant made.0 made.1
