use Rattle.std.proofs.Common.{◌≡◌, ◌+◌, length, drop}
use Rattle.net_base.specs.Reading.{in_turn}
use Rattle.net_base.specs.Lines.{lines_of}
use Rattle.schedule_replay.specs.Schedules.{line_at, schedule_in}
use Rattle.schedule_replay.proofs.read.read_schedule.Given as goal

abbrev pub invariant-loop-i : goal.invariant-loop-i
invariant-loop-i l = in_turn (line_at l.net) (length l.yielded + 1) l.schedule (drop (length l.yielded) (lines_of l.bytes)) ≡ schedule_in l.net l.bytes
