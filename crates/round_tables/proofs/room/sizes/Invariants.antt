use Rattle.std.proofs.Common.{◌≡◌, ◌<◌, length}
use Rattle.net_base.specs.declared.ids.SwitchId.{SwitchId}
use Rattle.flow_rules.specs.Tables.{rules_at, rules_of_all}
use Rattle.round_tables.specs.PreparedTables.{limit_at}
use Rattle.round_tables.proofs.room.sizes.Given as goal

abbrev pub invariant-loop-i : goal.invariant-loop-i
invariant-loop-i l = (length l.sizes.items ≡ l.i) × ((s : SwitchId) → s.0 < l.i → limit_at l.sizes.items s ≡ length (rules_at (rules_of_all l.tables) s))
