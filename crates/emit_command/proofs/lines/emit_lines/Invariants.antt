use Rattle.std.proofs.Common.{take}
use Rattle.round_messages.specs.Requests.{requests_from}
use Rattle.emit_command.specs.Written.{AddsLines}
use Rattle.emit_command.proofs.lines.emit_lines.Given as goal

abbrev pub invariant-loop-k : goal.invariant-loop-k
invariant-loop-k l = AddsLines l.net (requests_from l.net 0 (take l.k l.rounds)) l.initial.lines l.lines
