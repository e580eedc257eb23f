use Rattle.std.proofs.Common.{◌≤◌, take, drop}
use Rattle.two_way_replay.specs.CourseWorlds.{IsReplayedTo}
use Rattle.two_way_replay.proofs.replaying.replay_two_way.Given as goal

abbrev pub invariant-loop-line : goal.invariant-loop-line
invariant-loop-line l = record {
  to : IsReplayedTo l.initial.world l.world l.schedule (take l.line-index l.schedule) (drop l.line-index l.schedule);
  few : l.world.course.state.settles ≤ l.line-index;
}
