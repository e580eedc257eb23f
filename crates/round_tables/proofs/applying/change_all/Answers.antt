use Rattle.std.proofs.Common.{◌≡◌, ◌≤◌, [], List, length, sym, ◌∙◌, ap, subst, arith}
use Rattle.std.proofs.lemmas.List.{get_or_default}
use Rattle.flow_rules.specs.Tables.{TableState}
use Rattle.flow_rules.specs.declared.rules.Rule.{Rule}
use Rattle.update_model.specs.Changes.{rules_after}
use Rattle.update_model.specs.declared.Change.{Change}
use Rattle.round_mix.specs.Prepared.{AreGood}
use Rattle.round_tables.specs.Loading.{insert_count}
use Rattle.round_tables.specs.PreparedTables.{ChangesState, list_at, rules_there, table_at}
use Rattle.round_tables.proofs.ApplyLaws.{done_next, left_next, room_each, there_same}
use Rattle.round_tables.proofs.TableLaws.{switch_n}
use Rattle.round_tables.proofs.applying.change_all.Goals as goal

pub change_switch-requires-clause-good : goal.change_switch-requires-clause-good
change_switch-requires-clause-good c =
    let s = switch_n c.loop-i.i in
    let same = get_or_default c.args.lists.now c.loop-i.i c.index-lists-i.result (record { changes = []; room = 0 }) (omega arith) in
    let listed : c.list.result.now ≡ (list_at c.args.lists.now s).changes = c.list.ensures ∙ ap (λ (x : ChangesState). x.changes) (c.index-lists-i.is ∙ same) in
    subst (AreGood (rules_there c.loop-i.tables s)) (sym listed)
    (subst (λ (rs : List Rule). AreGood rs (list_at c.args.lists.now s).changes) (sym (there_same c.loop-i.tables c.args.tables.now s (c.loop-i.invariant.left s (omega arith))))
    (c.requires.good s (omega arith)))

pub change_switch-requires-clause-fits : goal.change_switch-requires-clause-fits
change_switch-requires-clause-fits c =
    let s = switch_n c.loop-i.i in
    let same = get_or_default c.args.lists.now c.loop-i.i c.index-lists-i.result (record { changes = []; room = 0 }) (omega arith) in
    let listed : c.list.result.now ≡ (list_at c.args.lists.now s).changes = c.list.ensures ∙ ap (λ (x : ChangesState). x.changes) (c.index-lists-i.is ∙ same) in
    subst (λ (cs : List Change). insert_count cs ≤ (table_at c.loop-i.tables s).spare) (sym listed)
    (subst (λ (t : TableState). insert_count (list_at c.args.lists.now s).changes ≤ t.spare) (sym (c.loop-i.invariant.left s (omega arith))) (c.requires.fits s (omega arith)))

pub change_switch-requires-clause-list : goal.change_switch-requires-clause-list
change_switch-requires-clause-list c =
    let s = switch_n c.loop-i.i in
    let same = get_or_default c.args.lists.now c.loop-i.i c.index-lists-i.result (record { changes = []; room = 0 }) (omega arith) in
    let listed : c.list.result.now ≡ (list_at c.args.lists.now s).changes = c.list.ensures ∙ ap (λ (x : ChangesState). x.changes) (c.index-lists-i.is ∙ same) in
    let count = ap length listed in
    let had = c.requires.list s (omega arith) in
    omega (arith, c.loop-i.invariant.list)

pub loop-i-preserved : goal.loop-i-preserved
loop-i-preserved c =
    let s = switch_n c.loop-i.i in
    let same = get_or_default c.args.lists.now c.loop-i.i c.index-lists-i.result (record { changes = []; room = 0 }) (omega arith) in
    let listed : c.list.result.now ≡ (list_at c.args.lists.now s).changes = c.list.ensures ∙ ap (λ (x : ChangesState). x.changes) (c.index-lists-i.is ∙ same) in
    let first = c.args.tables.now in
    let old = c.loop-i.tables in
    let lists = c.args.lists.now in
    let inv = c.loop-i.invariant in
    let made = c.change_switch.ensures in
    let new = c.change_switch.new.tables in
    record {
      count = made.count ∙ inv.count;
      done = done_next first old new lists s inv.left made.others inv.done (made.rules ∙ ap (λ (cs : List Change). rules_after cs (rules_there old s)) listed);
      left = left_next first old new lists s inv.left made.others;
      room = room_each first old new lists s inv.left made.others made.room inv.room;
      list = omega (arith, inv.list, made.list);
    }
