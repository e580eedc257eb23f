use Rattle.std.proofs.Common.{◌≡◌, ◌+◌, ◌<◌, length, take}
use Rattle.net_base.specs.declared.ids.SwitchId.{SwitchId}
use Rattle.flow_rules.specs.Tables.{rules_at, rules_of_all}
use Rattle.round_tables.specs.PreparedTables.{limit_at}
use Rattle.round_tables.specs.Loading.{inserts_over}
use Rattle.round_tables.proofs.room.most_needed.Given as goal

abbrev pub invariant-loop-k : goal.invariant-loop-k
invariant-loop-k l = record {
  len : length l.limits.items ≡ length l.old;
  counted : (s : SwitchId) → s.0 < length l.old → limit_at l.limits.items s ≡ length (rules_at (rules_of_all l.old) s) + inserts_over (take l.k l.rounds) s;
}
