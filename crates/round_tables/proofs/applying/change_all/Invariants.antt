use Rattle.std.proofs.Common.{◌≡◌, ◌<◌, ◌≤◌, length, vec_capacity}
use Rattle.net_base.specs.declared.ids.SwitchId.{SwitchId}
use Rattle.update_model.specs.Changes.{rules_after}
use Rattle.round_tables.specs.PreparedTables.{list_at, room_of, rules_there, table_at}
use Rattle.round_tables.proofs.applying.change_all.Given as goal

abbrev pub invariant-loop-i : goal.invariant-loop-i
invariant-loop-i l = record {
  count : length l.tables ≡ length l.initial.tables;
  done : (s : SwitchId) → s.0 < l.i → rules_there l.tables s ≡ rules_after (list_at l.lists s).changes (rules_there l.initial.tables s);
  left : (s : SwitchId) → l.i ≤ s.0 → table_at l.tables s ≡ table_at l.initial.tables s;
  room : (s : SwitchId) → room_of (table_at l.tables s) ≡ room_of (table_at l.initial.tables s);
  list : vec_capacity l.initial.rules ≤ vec_capacity l.rules;
}
