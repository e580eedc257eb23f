use Rattle.std.proofs.Common.{◌≡◌, ◌+◌, List, [], ◌∷◌, drop, length, suc, sym, ◌∙◌, ap, subst, add-one, arith}
use Rattle.std.proofs.Math.Seq.{drop-cons}
use Rattle.flow_rules.specs.Tables.{rules_of_all}
use Rattle.flow_rules.specs.declared.rules.Rule.{Rule}
use Rattle.update_model.specs.Changes.{tables_after, tables_after_change, IsGoodRound}
use Rattle.update_model.specs.declared.Change.{Change}
use Rattle.update_model.proofs.ChangeLaws.{length-tables_after}
use Rattle.update_model.proofs.RestLaws.{good_rest}
use Rattle.round_tables.specs.Steps.{AreMixed}
use Rattle.round_tables.proofs.StepLaws.{count_rules}
use Rattle.round_tables.proofs.filling.make_all.Goals as goal

pub loop-change-preserved : goal.loop-change-preserved
loop-change-preserved c =
    let i = c.loop-change.change-index in
    let changes = c.args.round.now in
    let d = c.change-item.result in
    let rest = drop (i + 1) changes in
    let old = rules_of_all c.loop-change.tables in
    let inv = c.loop-change.invariant in
    let split : drop i changes ≡ d ∷ rest =
    drop-cons changes i d c.loop-change-test.true ∙ ap (λ (x : Change). x ∷ drop (suc i) changes) (sym c.change-item.is) ∙ ap (λ n. d ∷ drop n changes) (sym (add-one i)) in
    let made : rules_of_all c.make_change.new.tables ≡ tables_after_change d old = c.in_ok-make_change.ensures.rules in
    record {
      good = subst (λ (ts : List (List Rule)). IsGoodRound ts rest) (sym made) (good_rest old d rest (subst (IsGoodRound old) split inv.good));
      made = ap (tables_after rest) made ∙ sym (ap (λ (cs : List Change). tables_after cs old) split) ∙ inv.made;
      mixed = c.in_ok-make_change.ensures.kept (length c.args.mixes.now) rest (omega arith) (subst (λ (cs : List Change). AreMixed (length c.args.mixes.now) old cs c.loop-change.mixes) split inv.mixed);
      count = sym (count_rules c.make_change.new.tables) ∙ ap (λ (ts : List (List Rule)). length ts) made ∙ length-tables_after (d ∷ []) old ∙ count_rules c.loop-change.tables ∙ inv.count ∙ omega arith;
      room = λ s. let had = inv.room s in let more = c.make_change.ensures.room s in omega arith;
    }
