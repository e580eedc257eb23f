use Rattle.std.proofs.Common.{◌∙◌, ap, set, sym}
use Rattle.net_base.specs.declared.ids.SwitchId.{SwitchId}
use Rattle.flow_rules.specs.Tables.{rules_at, rules_of_all}
use Rattle.update_model.specs.Changes.{rules_after_change}
use Rattle.update_model.proofs.WorldLaws.{rules_keep, ok_map, err_map}
use Rattle.flow_rules.proofs.TableLaws.{rules_set, rules_get}
use Rattle.update_model.proofs.change_tables.Goals as goal

pub returns-clause-ok : goal.returns-clause-ok
returns-clause-ok c =
    ok_map c.change_table.result _ _ (λ _ e. rw (rules_set c.args.config.now c.switch.result.0 c.change_table.new.table) (
    ap (set (rules_of_all c.args.config.now) c.switch.result.0) (e ∙ ap (rules_after_change c.args.change.now) (sym (rules_get c.args.config.now c.switch.result.0 c.table_mut.result.now c.table_mut.ensures.value)))
    ∙ ap (λ (w : SwitchId). set (rules_of_all c.args.config.now) w.0 (rules_after_change c.args.change.now (rules_at (rules_of_all c.args.config.now) w))) c.switch.ensures)) c.change_table.ensures.ok

pub returns-clause-err : goal.returns-clause-err
returns-clause-err c =
    err_map c.change_table.result _ _ (λ e. rules_keep c.args.config.now c.switch.result.0 c.table_mut.result.now c.change_table.new.table c.table_mut.ensures.value e) c.change_table.ensures.err
