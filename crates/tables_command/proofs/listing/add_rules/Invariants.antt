use Rattle.std.proofs.Common.{◌≡◌, ◌++◌, map, drop}
use Rattle.tables_command.specs.Listed.{placed_rule}
use Rattle.tables_command.proofs.listing.add_rules.Given as goal

abbrev pub invariant-loop-rule : goal.invariant-loop-rule
invariant-loop-rule l =
    l.listed.items ++ map (placed_rule l.switch) (drop l.rule-index l.rules) ≡ l.initial.listed.items ++ map (placed_rule l.switch) l.rules
