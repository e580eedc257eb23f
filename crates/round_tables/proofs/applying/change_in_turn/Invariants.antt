use Rattle.std.proofs.Common.{◌≡◌, ◌≤◌, drop}
use Rattle.update_model.specs.Changes.{rules_after}
use Rattle.round_mix.specs.Prepared.{AreGood}
use Rattle.round_tables.specs.Loading.{insert_count}
use Rattle.round_tables.specs.PreparedTables.{room_of}
use Rattle.round_tables.proofs.applying.change_in_turn.Given as goal

abbrev pub invariant-loop-change : goal.invariant-loop-change
invariant-loop-change l = record {
  good : AreGood l.table.rules (drop l.change-index l.changes);
  fits : insert_count (drop l.change-index l.changes) ≤ l.table.spare;
  rules : rules_after (drop l.change-index l.changes) l.table.rules ≡ rules_after l.changes l.initial.table.rules;
  room : room_of l.table ≡ room_of l.initial.table;
}
