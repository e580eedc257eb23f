use Rattle.std.proofs.Common.{take, map}
use Rattle.round_messages.specs.Requests.{change_request}
use Rattle.emit_command.specs.Written.{AddsLines}
use Rattle.emit_command.proofs.lines.Lines.add_changes.Given as goal

abbrev pub invariant-loop-change : goal.invariant-loop-change
invariant-loop-change l = AddsLines l.net (map (change_request l.round) (take l.change-index l.changes)) l.initial.self l.self
