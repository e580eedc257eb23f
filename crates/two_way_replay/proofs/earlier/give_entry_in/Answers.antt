use Rattle.std.proofs.Common.{◌∙◌, ap, set, sym}
use Rattle.flow_rules.specs.Tables.{rules_of_all}
use Rattle.flow_rules.proofs.TableLaws.{rules_set, rules_get}
use Rattle.update_model.proofs.WorldLaws.{rules_keep, ok_map, err_map}
use Rattle.two_way_replay.specs.Entries.{with_entry}
use Rattle.two_way_replay.proofs.earlier.give_entry_in.Goals as goal

pub returns-clause-ok : goal.returns-clause-ok
returns-clause-ok c =
    ok_map c.give_entry.result _ _ (λ _ e. rw (rules_set c.args.tables.now c.args.switch.0 c.give_entry.new.table) (
    ap (set (rules_of_all c.args.tables.now) c.args.switch.0)
    (e ∙ ap (with_entry c.args.key.now c.args.action) (sym (rules_get c.args.tables.now c.args.switch.0 c.table_mut.result.now c.table_mut.ensures.value))))) c.give_entry.ensures.ok

pub returns-clause-err : goal.returns-clause-err
returns-clause-err c =
    err_map c.give_entry.result _ _ (λ e. rules_keep c.args.tables.now c.args.switch.0 c.table_mut.result.now c.give_entry.new.table c.table_mut.ensures.value e) c.give_entry.ensures.err
