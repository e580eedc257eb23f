use Rattle.std.proofs.Common.{◌≡◌, ℕ, ◌+◌, ◌≤◌, List, ◌∷◌, drop, suc, sym, ◌∙◌, ap, subst, add-one}
use Rattle.std.proofs.Math.Seq.{drop-cons}
use Rattle.flow_rules.specs.declared.rules.Rule.{Rule}
use Rattle.update_model.specs.Changes.{rules_after}
use Rattle.update_model.specs.declared.Change.{Change}
use Rattle.round_mix.specs.Prepared.{AreGood}
use Rattle.round_tables.specs.Loading.{insert_count}
use Rattle.round_tables.proofs.ApplyLaws.{spare_step}
use Rattle.round_tables.proofs.ByKindLaws.{good_next}
use Rattle.round_tables.proofs.applying.change_in_turn.Goals as goal

pub loop-change-preserved : goal.loop-change-preserved
loop-change-preserved c =
    let i = c.loop-change.change-index in
    let changes = c.args.changes.now in
    let d = c.change-item.result in
    let rest = drop (i + 1) changes in
    let old = c.loop-change.table in
    let inv = c.loop-change.invariant in
    let split : drop i changes ≡ d ∷ rest =
    drop-cons changes i d c.loop-change-test.true ∙ ap (λ (x : Change). x ∷ drop (suc i) changes) (sym c.change-item.is) ∙ ap (λ n. d ∷ drop n changes) (sym (add-one i)) in
    let made = c.change_table.ensures in
    record {
      good = subst (λ (rs : List Rule). AreGood rs rest) (sym made.rules)
          (good_next old.rules d rest (subst (λ (cs : List Change). AreGood old.rules cs) split inv.good));
      fits = subst (λ (n : ℕ). insert_count rest ≤ n) (sym made.spare)
          (spare_step d rest old.spare (subst (λ (cs : List Change). insert_count cs ≤ old.spare) split inv.fits));
      rules = ap (rules_after rest) made.rules ∙ sym (ap (λ (cs : List Change). rules_after cs old.rules) split) ∙ inv.rules;
      room = made.room ∙ inv.room;
    }
