use Rattle.std.proofs.Common.{◌≡◌, ◌++◌, drop}
use Rattle.net_base.specs.Lines.{text_of}
use Rattle.schedule_replay.specs.Traces.{packet_lines, marked_lines}
use Rattle.schedule_replay.proofs.traces.add_packets.Given as goal

abbrev pub invariant-loop-i : goal.invariant-loop-i
invariant-loop-i l =
    l.text.items ++ text_of (marked_lines l.mark (packet_lines l.net l.i (drop l.i l.packets))) ≡ l.initial.text.items ++ text_of (marked_lines l.mark (packet_lines l.net 0 l.packets))
