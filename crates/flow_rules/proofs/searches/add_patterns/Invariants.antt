use Rattle.std.proofs.Common.{◌≡◌, ◌++◌, take}
use Rattle.flow_rules.specs.Tables.{patterns_of}
use Rattle.flow_rules.proofs.searches.add_patterns.Given as goal

abbrev pub invariant-loop-rule : goal.invariant-loop-rule
invariant-loop-rule l = l.space.patterns ≡ l.initial.space.patterns ++ patterns_of (take l.rule-index l.rules)
