use Rattle.std.proofs.Common.{◌≡◌, map, drop}
use Rattle.flat_json.specs.Trees.{data_of}
use Rattle.net_base.specs.Reading.{in_turn}
use Rattle.plan_format.specs.Changes.{rule_at, rules_in}
use Rattle.plan_format.proofs.changes.read_rules.Given as goal

abbrev pub invariant-loop-i : goal.invariant-loop-i
invariant-loop-i l = in_turn (rule_at l.net) l.i l.rules (map (data_of l.tree) (drop l.i l.items)) ≡ rules_in l.net (data_of l.tree l.top)
