use Rattle.std.proofs.Common.{◌≡◌, take, map}
use Rattle.serde_json.specs.View.{view}
use Rattle.flow_rules.specs.Tables.{rules_of_all}
use Rattle.config_files.specs.ConfigText.{rule_trees}
use Rattle.config_files.proofs.write.rule_values.Given as goal

abbrev pub invariant-loop-s : goal.invariant-loop-s
invariant-loop-s l = map view l.values.items ≡ rule_trees l.net 0 (take l.s (rules_of_all l.config))
