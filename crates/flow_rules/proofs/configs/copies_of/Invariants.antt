use Rattle.std.proofs.Common.{◌≡◌, take}
use Rattle.flow_rules.specs.Tables.{rules_of_all}
use Rattle.flow_rules.proofs.configs.copies_of.Given as goal

abbrev pub invariant-loop-table : goal.invariant-loop-table
invariant-loop-table l = rules_of_all l.copies.items ≡ rules_of_all (take l.table-index l.tables)
