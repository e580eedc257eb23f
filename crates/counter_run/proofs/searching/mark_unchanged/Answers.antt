use Rattle.std.proofs.Common.{◌≡◌, ℕ, true, false, List, set, sym, ◌∙◌, subst, ap, inl, inr, arith}
use Rattle.std.specs.Prelude.{slice_get}
use Rattle.std.proofs.lemmas.Bool.{cases_eq}
use Rattle.std.proofs.lemmas.List.{length-set}
use Rattle.dest_classes.specs.Classes.{IsClass}
use Rattle.dest_classes.specs.declared.Class.{Class}
use Rattle.dest_classes.proofs.MapLaws.{number_fits}
use Rattle.update_model.specs.declared.Change.{Change}
use Rattle.check_reasons.specs.Touched.{touches}
use Rattle.check_reasons.proofs.PositionLaws.{get_set_same, get_set_other}
use Rattle.counter_run.specs.Showing.{shown_rollout}
use Rattle.counter_run.specs.Explaining.{ClassBreaks}
use Rattle.counter_run.proofs.ClassLaws.{class_unchanged}
use Rattle.counter_run.proofs.searching.mark_unchanged.Goals as goal

pub loop-number-preserved : goal.loop-number-preserved
loop-number-preserved c =
    let stage = c.args.stage in
    let u = shown_rollout stage in
    let demands = c.args.duties.now.demands in
    let good = c.loop-number.good in
    let i = c.loop-number.number in
    let result = c.is_unchanged.result in
    let found = c.class-class.result in
    record {
      count = length-set good i result ∙ c.loop-number.invariant.count;
      each = λ n class less is on.
          elim (cases_eq n i) [
            | inl same ↦ (
                let marked : result ≡ true = get_set_same good i result true (ap (slice_get (set good i result)) (sym same) ∙ on) in
                let off = c.is_unchanged.ensures marked in
                let the_class : class ≡ found = c.class-class.ensures.only class (subst (λ (m : ℕ). IsClass c.args.classes.now m class) same is) in
                subst (λ (x : Class). ¬ ClassBreaks u demands stage.round.number x) (sym the_class)
                (class_unchanged u c.requires.stage.good c.requires.stage.clear demands stage.round.number found c.requires.stage.within off.0
                (subst (λ (round : List Change). touches round found.first ≡ false) c.round-round.ensures off.1) (λ j below. c.requires.before j below i found c.class-class.ensures.is)))
            | inr ne ↦ c.loop-number.invariant.each n class (omega arith) is (sym (get_set_other good i n result ne) ∙ on)
          ];
    }

pub returns-clause-good : goal.returns-clause-good
returns-clause-good c n class is on =
    let fits = number_fits c.args.classes.now n class is in
    let past = c.loop-number-test.false in
    let end = c.count-number-end.ensures.count in
    c.loop-number.invariant.each n class (omega arith) is on
