use Rattle.std.proofs.Common.{◌≡◌, length, map, drop}
use Rattle.flat_json.specs.Trees.{data_of}
use Rattle.net_base.specs.Reading.{in_turn}
use Rattle.flow_rules.specs.Tables.{rules_of_all}
use Rattle.config_files.specs.Configuration.{rule_at}
use Rattle.config_files.proofs.read.read_items.Given as goal

abbrev pub invariant-loop-i : goal.invariant-loop-i
invariant-loop-i l = record {
  read : in_turn (rule_at l.net) l.i (rules_of_all l.config) (map (data_of l.tree) (drop l.i l.items)) ≡ in_turn (rule_at l.net) 0 (rules_of_all l.initial.config) (map (data_of l.tree) l.items);
  count : length l.config ≡ length l.initial.config;
}
