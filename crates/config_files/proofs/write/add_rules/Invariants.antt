use Rattle.std.proofs.Common.{◌≡◌, ◌++◌, take, map}
use Rattle.serde_json.specs.View.{view}
use Rattle.config_files.specs.ConfigText.{rule_tree}
use Rattle.config_files.proofs.write.add_rules.Given as goal

abbrev pub invariant-loop-rule : goal.invariant-loop-rule
invariant-loop-rule l = map view l.values.items ≡ map view l.initial.values.items ++ map (rule_tree l.net l.switch) (take l.rule-index l.rules)
