use Rattle.two_way_replay.proofs.ReplayedLaws.{replayed_more, few_more}
use Rattle.two_way_replay.proofs.replaying.replay_two_way.Goals as goal

pub loop-line-preserved : goal.loop-line-preserved
loop-line-preserved c =
    let made = rw c.list-line-items.ensures at c.in_ok-step_line.ensures in
    let lt = rw c.list-line-items.ensures at c.loop-line-test.true in
    record {
      to = replayed_more c.args.world.now c.loop-line.world c.step_line.new.world c.args.schedule.now c.loop-line.line-index _ lt c.loop-line.invariant.to made.0 made.1;
      few = few_more c.loop-line.world c.step_line.new.world _ c.loop-line.line-index made.1 c.loop-line.invariant.few;
    }
