use Rattle.std.proofs.Common.{◌≡◌, ℕ, ◌+◌, ◌≤◌, List, ◌∷◌, drop, suc, sym, ◌∙◌, ap, subst, add-one}
use Rattle.std.proofs.Math.Seq.{drop-cons}
use Rattle.std.proofs.lemmas.Bool.{cond-true, cond-false}
use Rattle.flow_rules.specs.Tables.{TableState}
use Rattle.flow_rules.specs.declared.rules.Rule.{Rule}
use Rattle.update_model.specs.Changes.{rules_after}
use Rattle.update_model.specs.Mixtures.{is_insert}
use Rattle.update_model.specs.declared.Change.{Change}
use Rattle.round_mix.specs.Prepared.{AreGood}
use Rattle.round_tables.specs.ByKind.{inserts}
use Rattle.round_tables.specs.Loading.{insert_count}
use Rattle.round_tables.specs.PreparedTables.{room_of}
use Rattle.round_tables.proofs.ApplyLaws.{spare_step}
use Rattle.round_tables.proofs.ByKindLaws.{good_next}
use Rattle.round_tables.proofs.applying.insert_rules.Goals as goal
use Rattle.round_tables.proofs.applying.insert_rules.Goals.{then-is_insert, else-is_insert}

pub loop-change-preserved : goal.loop-change-preserved
loop-change-preserved c =
    let i = c.loop-change.change-index in
    let changes = c.args.changes.now in
    let d = c.change-item.result in
    let rest = drop (i + 1) changes in
    let old = c.loop-change.table in
    let inv = c.loop-change.invariant in
    let split : drop i changes ≡ d ∷ rest =
    drop-cons changes i d c.loop-change-test.true ∙ ap (λ (x : Change). x ∷ drop (suc i) changes) (sym c.change-item.is) ∙ ap (λ n. d ∷ drop n changes) (sym (add-one i)) in
    elim c.if-is_insert.branch [
      | then-is_insert w ↦ (
          let here : inserts (drop i changes) ≡ d ∷ inserts rest =
          ap inserts split ∙ cond-true (is_insert d) (d ∷ inserts rest) (inserts rest) (sym c.is_insert.ensures ∙ w.if-is_insert.true) in
          let made = w.change_table.ensures in
          record {
            good = subst (λ (t : TableState). AreGood t.rules (inserts rest)) (sym w.table-is)
                (subst (λ (rs : List Rule). AreGood rs (inserts rest)) (sym made.rules)
                (good_next old.rules d (inserts rest) (subst (λ (cs : List Change). AreGood old.rules cs) here inv.good)));
            fits = subst (λ (t : TableState). insert_count (inserts rest) ≤ t.spare) (sym w.table-is)
                (subst (λ (n : ℕ). insert_count (inserts rest) ≤ n) (sym made.spare)
                (spare_step d (inserts rest) old.spare (subst (λ (cs : List Change). insert_count cs ≤ old.spare) here inv.fits)));
            rules = ap (λ (t : TableState). rules_after (inserts rest) t.rules) w.table-is ∙ ap (rules_after (inserts rest)) made.rules
                ∙ sym (ap (λ (cs : List Change). rules_after cs old.rules) here) ∙ inv.rules;
            room = ap room_of w.table-is ∙ made.room ∙ inv.room;
          })
      | else-is_insert w ↦ (
          let here : inserts (drop i changes) ≡ inserts rest =
          ap inserts split ∙ cond-false (is_insert d) (d ∷ inserts rest) (inserts rest) (sym c.is_insert.ensures ∙ w.if-is_insert.false) in
          record {
            good = subst (λ (t : TableState). AreGood t.rules (inserts rest)) (sym w.table-is) (subst (λ (cs : List Change). AreGood old.rules cs) here inv.good);
            fits = subst (λ (t : TableState). insert_count (inserts rest) ≤ t.spare) (sym w.table-is) (subst (λ (cs : List Change). insert_count cs ≤ old.spare) here inv.fits);
            rules = ap (λ (t : TableState). rules_after (inserts rest) t.rules) w.table-is ∙ sym (ap (λ (cs : List Change). rules_after cs old.rules) here) ∙ inv.rules;
            room = ap room_of w.table-is ∙ inv.room;
          })
    ]
