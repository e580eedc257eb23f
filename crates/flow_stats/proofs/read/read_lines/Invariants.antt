use Rattle.std.proofs.Common.{◌≡◌, ◌+◌, length, drop}
use Rattle.net_base.specs.Reading.{in_turn}
use Rattle.net_base.specs.Lines.{lines_of}
use Rattle.flow_stats.specs.Replies.{line_at, told_in, told_seen, AreFor}
use Rattle.flow_stats.proofs.read.read_lines.Given as goal

abbrev pub invariant-loop-i : goal.invariant-loop-i
invariant-loop-i l = record {
  read : in_turn (line_at l.net) (length l.yielded + 1) (told_seen l.told) (drop (length l.yielded) (lines_of l.bytes)) ≡ told_in l.net l.bytes;
  kept : AreFor l.net l.told;
}
