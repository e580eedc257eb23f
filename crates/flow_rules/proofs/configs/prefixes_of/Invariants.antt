use Rattle.std.proofs.Common.{◌≡◌, take}
use Rattle.flow_rules.specs.Tables.{rules_of_all, table_blocks}
use Rattle.flow_rules.proofs.configs.prefixes_of.Given as goal

abbrev pub invariant-loop-table : goal.invariant-loop-table
invariant-loop-table l = l.prefixes.items ≡ table_blocks (rules_of_all (take l.table-index l.tables))
