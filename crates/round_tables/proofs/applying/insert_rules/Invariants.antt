use Rattle.std.proofs.Common.{◌≡◌, ◌≤◌, drop}
use Rattle.update_model.specs.Changes.{rules_after}
use Rattle.round_mix.specs.Prepared.{AreGood}
use Rattle.round_tables.specs.ByKind.{inserts}
use Rattle.round_tables.specs.Loading.{insert_count}
use Rattle.round_tables.specs.PreparedTables.{room_of}
use Rattle.round_tables.proofs.applying.insert_rules.Given as goal

abbrev pub invariant-loop-change : goal.invariant-loop-change
invariant-loop-change l = record {
  good : AreGood l.table.rules (inserts (drop l.change-index l.changes));
  fits : insert_count (inserts (drop l.change-index l.changes)) ≤ l.table.spare;
  rules : rules_after (inserts (drop l.change-index l.changes)) l.table.rules ≡ rules_after (inserts l.changes) l.initial.table.rules;
  room : room_of l.table ≡ room_of l.initial.table;
}
