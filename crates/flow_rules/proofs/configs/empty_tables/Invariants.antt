use Rattle.std.proofs.Common.{◌≡◌, [], replicate}
use Rattle.flow_rules.specs.Tables.{rules_of_all}
use Rattle.flow_rules.proofs.configs.empty_tables.Given as goal

abbrev pub invariant-loop-switch : goal.invariant-loop-switch
invariant-loop-switch l = rules_of_all l.tables.items ≡ replicate l._switch []
