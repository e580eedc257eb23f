use Rattle.std.proofs.Common.{take, drop}
use Rattle.schedule_replay.specs.Replays.{IsCarriedOut}
use Rattle.schedule_replay.proofs.running.replay.Given as goal

abbrev pub invariant-loop-line : goal.invariant-loop-line
invariant-loop-line l = IsCarriedOut l.initial.world l.world l.schedule (take l.line-index l.schedule) (drop l.line-index l.schedule)
