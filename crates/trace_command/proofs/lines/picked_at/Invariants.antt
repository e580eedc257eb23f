use Rattle.std.proofs.Common.{◌≡◌, take}
use Rattle.flow_rules.specs.Tables.{matched_rule}
use Rattle.path_walk.specs.Outcomes.{header_at}
use Rattle.trace_command.proofs.lines.picked_at.Given as goal

abbrev pub invariant-loop-rule : goal.invariant-loop-rule
invariant-loop-rule l = l.best ≡ matched_rule (header_at l.place l.dst) (take l.rule-index l.rules)
