use Rattle.std.proofs.Common.{◌≡◌, ◌<◌, length, sym, ◌∙◌, subst, ap, inl, inr, arith}
use Rattle.std.proofs.lemmas.Bool.{cases_lt}
use Rattle.dest_classes.specs.Classes.{IsClass, class_count}
use Rattle.dest_classes.proofs.MapLaws.{number_fits}
use Rattle.two_phase_check.specs.Kept.{number_at}
use Rattle.two_phase_check.proofs.KeepLaws.{some_port, place_fits, place_of}
use Rattle.two_phase_check.proofs.two_phase.all_keep.Goals as goal

pub number_at-number-requires-clause-some : goal.number_at-number-requires-clause-some
number_at-number-requires-clause-some c =
    some_port c.args.classes.now c.ports-ports.result c.count-count.result (c.ports-ports.ensures ∙ ap length (sym c.requires.classes.hosts)) c.count-count.ensures.count c.loop-i.i c.loop-i-test.true

pub judge_class-requires-clause-number : goal.judge_class-requires-clause-number
judge_class-requires-clause-number c =
    subst (λ m. m < class_count c.args.classes.now) (sym c.number_at-number.ensures)
    (place_fits c.args.classes.now c.ports-ports.result c.count-count.result (c.ports-ports.ensures ∙ ap length (sym c.requires.classes.hosts)) c.count-count.ensures.count c.loop-i.i c.loop-i-test.true)

pub loop-i-preserved : goal.loop-i-preserved
loop-i-preserved c = record {
  keep = λ j class below is.
      elim (cases_lt j c.loop-i.i) [
        | inl earlier ↦ c.loop-i.invariant.keep j class earlier is
        | inr late ↦ (
            let here : j ≡ c.loop-i.i = omega arith in
            c.in_default.ensures.none class
            (subst (λ m. IsClass c.args.classes.now m class) (sym c.number_at-number.ensures) (subst (λ m. IsClass c.args.classes.now (number_at m c.ports-ports.result c.count-count.result) class) here is)))
      ];
  entry_room = c.judge_class.ensures.entry_room;
  path_room = c.judge_class.ensures.path_room;
  known = c.judge_class.ensures.known;
}

pub returns-clause-keep : goal.returns-clause-keep
returns-clause-keep c =
    λ yes n class is.
    let fits = number_fits c.args.classes.now n class is in
    let (j, below, hits) = place_of c.args.classes.now c.ports-ports.result c.count-count.result (c.ports-ports.ensures ∙ ap length (sym c.requires.classes.hosts)) c.count-count.ensures.count n fits in
    let all : j < c.loop-i.i = (let past = c.loop-i-test.false in omega arith) in
    c.loop-i.invariant.keep j class all (subst (λ m. IsClass c.args.classes.now m class) (sym hits) is)
