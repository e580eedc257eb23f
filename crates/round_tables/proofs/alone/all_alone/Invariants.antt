use Rattle.std.proofs.Common.{◌≡◌, ◌<◌, [], length}
use Rattle.net_base.specs.declared.ids.SwitchId.{SwitchId}
use Rattle.flow_rules.specs.Tables.{rules_at, rules_of_all}
use Rattle.round_tables.specs.PreparedTables.{mix_at, IsMixed}
use Rattle.round_tables.specs.Trials.{HaveRoom}
use Rattle.round_tables.proofs.alone.all_alone.Given as goal

abbrev pub invariant-loop-i : goal.invariant-loop-i
invariant-loop-i l = record {
  len : length l.mixes.items ≡ l.i;
  counts : length l.rooms.items ≡ l.i;
  prepared : (s : SwitchId) → s.0 < l.i → IsMixed (rules_at (rules_of_all l.tables) s) [] (mix_at l.mixes.items s);
  room : HaveRoom l.rooms.items l.mixes.items;
}
