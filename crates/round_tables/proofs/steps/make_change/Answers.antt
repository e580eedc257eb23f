use Rattle.std.proofs.Common.{◌∷◌, sym, ◌∙◌, ap, subst}
use Rattle.net_base.specs.declared.ids.SwitchId.{SwitchId}
use Rattle.flow_rules.specs.Tables.{IsTable, rules_at, rules_of_all}
use Rattle.flow_rules.proofs.TableLaws.{rules_get}
use Rattle.update_model.specs.Changes.{changes_at, rules_after_change, switch_of}
use Rattle.round_tables.specs.PreparedTables.{IsMixed, mix_at}
use Rattle.round_tables.proofs.TakenLaws.{kept_mixed}
use Rattle.round_tables.proofs.steps.make_change.Goals as goal

pub returns-clause-kept : goal.returns-clause-kept
returns-clause-kept c = λ n rest few all.
    let change = c.args.change.now in
    let tables = rules_of_all c.args.tables.now in
    let old = c.args.mixes.now in
    let new = c.keep_at.new.mixes in
    let s = c.switch-switch.result in
    let w = switch_of change in
    let is_table : IsTable (rules_at tables s) = subst IsTable (sym (rules_get c.args.tables.now s.0 c.table.result.now c.table.ensures)) c.keeps_keys.ensures in
    kept_mixed change rest tables c.requires.applies (rules_of_all c.change_tables.new.config) old new n c.in_ok-change_tables.ensures.ok
    (λ o ne. c.keep_at.ensures.others o (λ e. ne (e ∙ ap (λ (x : SwitchId). x.0) c.switch-switch.ensures)))
    (subst (λ (x : SwitchId). IsMixed (rules_at tables x) (change ∷ changes_at x rest) (mix_at old x) → IsMixed (rules_after_change change (rules_at tables x)) (changes_at x rest) (mix_at new x)) c.switch-switch.ensures
    (λ had. c.keep_at.ensures.after (rules_at tables s) (changes_at s rest) is_table had)) all
