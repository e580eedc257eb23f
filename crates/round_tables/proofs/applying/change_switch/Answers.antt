use Rattle.std.proofs.Common.{List, [], set, get_or-set_same, sym, ◌∙◌, ap, arith, ◌≡◌}
use Rattle.std.proofs.lemmas.Bool.{eqb-true}
use Rattle.std.proofs.lemmas.List.{nil_from_length}
use Rattle.std.proofs.lemmas.Option.{get_or_from_slice_get}
use Rattle.flow_rules.specs.Tables.{TableState}
use Rattle.flow_rules.proofs.TableLaws.{rules_get}
use Rattle.update_model.specs.Changes.{rules_after}
use Rattle.update_model.specs.declared.Change.{Change}
use Rattle.round_tables.specs.PreparedTables.{room_of, rules_there}
use Rattle.round_tables.proofs.TableLaws.{rules_in}
use Rattle.round_tables.proofs.applying.change_switch.Goals as goal

pub returns-clause-rules : goal.returns-clause-rules
returns-clause-rules c =
    let tables = c.args.tables.now in
    let s = c.args.switch in
    rules_in (set tables s.0 c.change_rules.new.table) s
    ∙ ap (λ (t : TableState). t.rules) (get_or-set_same tables s.0 c.change_rules.new.table (record { rules = []; spare = 0 }) c.requires.within)
    ∙ c.change_rules.ensures.rules
    ∙ ap (rules_after c.args.changes.now) (sym (rules_get tables s.0 c.table_mut.result.now c.table_mut.ensures.value))

pub returns-clause-room : goal.returns-clause-room
returns-clause-room c =
    let tables = c.args.tables.now in
    let s = c.args.switch in
    ap room_of (get_or-set_same tables s.0 c.change_rules.new.table (record { rules = []; spare = 0 }) c.requires.within)
    ∙ c.change_rules.ensures.room
    ∙ sym (ap room_of (get_or_from_slice_get tables s.0 c.table_mut.result.now (record { rules = []; spare = 0 }) c.table_mut.ensures.value))

pub returns-then-is_empty-clause-rules : goal.returns-then-is_empty-clause-rules
returns-then-is_empty-clause-rules c =
    let s = c.args.switch in
    let zero_is = eqb-true _ 0 (sym c.is_empty.ensures ∙ c.if-is_empty.true) in
    let none : c.args.changes.now ≡ [] = nil_from_length c.args.changes.now (omega arith) in
    sym (ap (λ (cs : List Change). rules_after cs (rules_there c.args.tables.now s)) none)
