use Rattle.std.proofs.Common.{◌≡◌, ◌++◌, drop, map}
use Rattle.net_base.specs.Lines.{text_of}
use Rattle.flow_rules.specs.Tables.{rules_of_all}
use Rattle.trace_command.specs.Traced.{stop_line}
use Rattle.trace_command.proofs.lines.add_stops.Given as goal

abbrev pub invariant-loop-place : goal.invariant-loop-place
invariant-loop-place l =
    l.text.items ++ text_of (map (stop_line l.net (rules_of_all l.config) l.dst) (drop l.place-index l.places))
    ≡ l.initial.text.items ++ text_of (map (stop_line l.net (rules_of_all l.config) l.dst) l.places)
