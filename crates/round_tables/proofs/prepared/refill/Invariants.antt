use Rattle.std.proofs.Common.{◌≡◌, take}
use Rattle.flow_rules.specs.Tables.{IsTable}
use Rattle.round_tables.specs.PreparedTables.{room_of}
use Rattle.round_tables.proofs.prepared.refill.Given as goal

abbrev pub invariant-loop-rule : goal.invariant-loop-rule
invariant-loop-rule l = (l.table.rules ≡ take l.rule-index l.source.rules) × (room_of l.table ≡ room_of l.initial.table) × IsTable l.source.rules
