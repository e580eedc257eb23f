use Rattle.std.proofs.Common.{◌≡◌, ◌+◌, length, drop}
use Rattle.net_base.specs.Reading.{in_turn}
use Rattle.net_base.specs.Lines.{lines_of}
use Rattle.two_way_replay.specs.TwoWaySchedules.{two_way_line_at, two_way_schedule_in}
use Rattle.two_way_replay.proofs.read.read_two_way_schedule.Given as goal

abbrev pub invariant-loop-i : goal.invariant-loop-i
invariant-loop-i l = in_turn (two_way_line_at l.net) (length l.yielded + 1) l.schedule (drop (length l.yielded) (lines_of l.bytes)) ≡ two_way_schedule_in l.net l.bytes
