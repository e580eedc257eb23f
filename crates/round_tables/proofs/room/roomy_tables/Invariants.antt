use Rattle.std.proofs.Common.{◌≡◌, ◌<◌, ◌≤◌, length}
use Rattle.net_base.specs.declared.ids.SwitchId.{SwitchId}
use Rattle.round_tables.specs.PreparedTables.{limit_at, room_of, table_at}
use Rattle.round_tables.proofs.room.roomy_tables.Given as goal

abbrev pub invariant-loop-i : goal.invariant-loop-i
invariant-loop-i l = (length l.tables ≡ length l.limits) × ((s : SwitchId) → s.0 < l.i → limit_at l.limits s ≤ room_of (table_at l.tables s))
