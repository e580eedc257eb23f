use Rattle.std.proofs.Common.{◌≡◌, ◌+◌, ◌≤◌, length, drop}
use Rattle.net_base.specs.Reading.{in_turn}
use Rattle.flow_rules.specs.Tables.{rules_of_all}
use Rattle.flow_stats.specs.Index.{AreIndexed}
use Rattle.flow_stats.specs.Tables.{entry_at}
use Rattle.flow_stats.proofs.adding.add_entries.Given as goal

abbrev pub invariant-loop-i : goal.invariant-loop-i
invariant-loop-i l = record {
  read : in_turn (entry_at l.net l.switch) (l.first + l.i) (rules_of_all l.config) (drop l.i l.entries) ≡ in_turn (entry_at l.net l.switch) l.first (rules_of_all l.initial.config) l.entries;
  index : AreIndexed (rules_of_all l.config) l.index;
  few : l.first + l.i ≤ 2048;
  count : length l.config ≡ length l.initial.config;
}
