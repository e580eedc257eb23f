use Rattle.std.proofs.Common.{◌≡◌, ◌++◌, drop}
use Rattle.flow_rules.specs.Tables.{rules_of_all}
use Rattle.update_model.specs.Remaining.{changes_from, remaining_changes}
use Rattle.table_difference.proofs.remaining.Given as goal

abbrev pub invariant-loop-number : goal.invariant-loop-number
invariant-loop-number l =
    l.changes.items ++ changes_from l.number (drop l.number (rules_of_all l.now)) (drop l.number (rules_of_all l.new)) ≡ remaining_changes (rules_of_all l.now) (rules_of_all l.new)
