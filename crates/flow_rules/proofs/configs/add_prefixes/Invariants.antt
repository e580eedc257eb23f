use Rattle.std.proofs.Common.{◌≡◌, ◌++◌, map, take}
use Rattle.flow_rules.proofs.configs.add_prefixes.Given as goal

abbrev pub invariant-loop-rule : goal.invariant-loop-rule
invariant-loop-rule l = l.prefixes.items ≡ l.fn.prefixes.items ++ map (λ r. r.key.pattern.dst) (take l.rule-index l.rules)
