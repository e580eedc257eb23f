use Rattle.std.proofs.Common.{◌≡◌, ◌<◌, length}
use Rattle.net_base.specs.declared.ids.SwitchId.{SwitchId}
use Rattle.flow_rules.specs.Tables.{rules_at, rules_of_all}
use Rattle.round_tables.specs.PreparedTables.{room_of, table_at}
use Rattle.round_tables.proofs.prepared.refill_all.Given as goal

abbrev pub invariant-loop-i : goal.invariant-loop-i
invariant-loop-i l =
    (length l.tables ≡ length l.sources) × ((s : SwitchId) → room_of (table_at l.tables s) ≡ room_of (table_at l.initial.tables s))
    × ((s : SwitchId) → s.0 < l.i → (table_at l.tables s).rules ≡ rules_at (rules_of_all l.sources) s)
