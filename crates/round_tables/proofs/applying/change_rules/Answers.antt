use Rattle.std.proofs.Common.{List, length, sym, ◌∙◌, ap, subst, arith}
use Rattle.flow_rules.specs.Tables.{IsTable}
use Rattle.flow_rules.specs.declared.rules.Rule.{Rule}
use Rattle.update_model.specs.Changes.{rules_after}
use Rattle.round_mix.specs.Prepared.{AreGood}
use Rattle.update_model.specs.Mixtures.{is_replace}
use Rattle.round_tables.specs.ByKind.{inserts}
use Rattle.round_tables.proofs.ByKindLaws.{good_inserts, inserts_few, length-in_turn, passes_made, same_after, table_of, without_few}
use Rattle.round_tables.proofs.applying.change_rules.Goals as goal

pub replace_all-requires : goal.replace_all-requires
replace_all-requires c = record {
  distinct = subst IsTable (sym (c.deref_mut-2.ensures.value ∙ c.collect_replacing.ensures.items)) (table_of is_replace c.args.changes.now c.requires.good.distinct);
}

pub insert_rules-requires-clause-good : goal.insert_rules-requires-clause-good
insert_rules-requires-clause-good c =
    let old = c.args.table.now.rules in
    let changes = c.args.changes.now in
    let made = passes_made changes old c.deref_mut.result.now c.delete_all.new.self.rules c.deref_mut-2.result.now c.replace_all.new.self.rules
    (c.deref_mut.ensures.value ∙ c.collect_deleted.ensures.items) c.delete_all.ensures.rules
    (c.deref_mut-2.ensures.value ∙ c.collect_replacing.ensures.items) c.replace_all.ensures.rules in
    subst (λ (rs : List Rule). AreGood rs (inserts changes)) (sym made) (good_inserts old changes c.requires.good)

pub insert_rules-requires-clause-fits : goal.insert_rules-requires-clause-fits
insert_rules-requires-clause-fits c =
    let few = inserts_few c.args.changes.now in
    let stay = without_few c.deref_mut.result.now c.args.table.now.rules in
    let same = ap length c.delete_all.ensures.rules in
    omega (arith, c.requires.fits, c.delete_all.ensures.room, c.replace_all.ensures.spare)

pub returns-clause-rules : goal.returns-clause-rules
returns-clause-rules c =
    let old = c.args.table.now.rules in
    let changes = c.args.changes.now in
    let made = passes_made changes old c.deref_mut.result.now c.delete_all.new.self.rules c.deref_mut-2.result.now c.replace_all.new.self.rules
    (c.deref_mut.ensures.value ∙ c.collect_deleted.ensures.items) c.delete_all.ensures.rules
    (c.deref_mut-2.ensures.value ∙ c.collect_replacing.ensures.items) c.replace_all.ensures.rules in
    c.insert_rules.ensures.rules ∙ ap (rules_after (inserts changes)) made ∙ same_after changes old c.requires.good.distinct

pub returns-clause-room : goal.returns-clause-room
returns-clause-room c =
    let count = ap length c.replace_all.ensures.rules in
    let same = length-in_turn c.deref_mut-2.result.now c.delete_all.new.self.rules in
    omega (arith, c.insert_rules.ensures.room, c.delete_all.ensures.room, c.replace_all.ensures.spare)
