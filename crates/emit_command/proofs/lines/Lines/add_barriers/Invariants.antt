use Rattle.std.proofs.Common.{map}
use Rattle.std.specs.Prelude.{filter}
use Rattle.std.specs.List.{range_with_len}
use Rattle.net_base.specs.Switches.{has}
use Rattle.round_messages.specs.Requests.{barrier_request, switch_numbered}
use Rattle.emit_command.specs.Written.{AddsLines}
use Rattle.emit_command.proofs.lines.Lines.add_barriers.Given as goal

abbrev pub invariant-loop-number : goal.invariant-loop-number
invariant-loop-number l = AddsLines l.net (map (barrier_request l.round) (filter (has l.changed) (map switch_numbered (range_with_len 0 l.number)))) l.initial.self l.self
