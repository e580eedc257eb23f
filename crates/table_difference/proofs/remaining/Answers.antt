use Rattle.std.proofs.Common.{arith, inl, inr, length}
use Rattle.std.proofs.lemmas.Bool.{cases_lt}
use Rattle.flow_rules.specs.Tables.{rules_of_all}
use Rattle.update_model.specs.Remaining.{remaining_changes}
use Rattle.table_difference.proofs.SwitchLaws.{one_added, all_added}
use Rattle.table_difference.proofs.remaining.Goals as goal

pub loop-number-preserved : goal.loop-number-preserved
loop-number-preserved c =
    one_added c.loop-number.number c.args.now.now c.args.new.now c.loop-number.changes.items (remaining_changes (rules_of_all c.args.now.now) (rules_of_all c.args.new.now)) c.loop-number.invariant
    c.table.result.now c.table-in-loop-number.result.now c.add_differences.new.changes.items c.table.ensures c.table-in-loop-number.ensures c.in_ok-add_differences.ensures

pub returns : goal.returns
returns c =
    all_added c.loop-number.number c.args.now.now c.args.new.now c.loop-number.changes.items (remaining_changes (rules_of_all c.args.now.now) (rules_of_all c.args.new.now)) c.loop-number.invariant
    (elim (cases_lt (length c.args.now.now) (length c.args.new.now)) [ inl less ↦ inl (omega arith) | inr more ↦ inr (omega arith) ])
