use Rattle.std.proofs.Common.{◌≡◌, ◌++◌, take, map}
use Rattle.two_phase.proofs.switch_rules.add_priorities.Given as goal

abbrev pub invariant-loop-rule : goal.invariant-loop-rule
invariant-loop-rule l = l.priorities.items ≡ l.initial.priorities.items ++ map (λ r. r.key.priority) (take l.rule-index l.rules)
