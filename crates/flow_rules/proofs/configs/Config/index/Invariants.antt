use Rattle.std.proofs.Common.{◌≡◌}
use Rattle.flow_rules.proofs.configs.Config.index.Given as goal

abbrev pub invariant-loop-i : goal.invariant-loop-i
invariant-loop-i l = l.self-inside.tables.items ≡ l.initial.self-inside.tables.items
