use Rattle.std.proofs.Common.{◌≡◌, ◌<◌, subst, inl, inr, arith}
use Rattle.std.proofs.lemmas.Bool.{cases_lt}
use Rattle.dest_classes.specs.Classes.{IsClass}
use Rattle.dest_classes.proofs.MapLaws.{number_fits}
use Rattle.two_phase_check.proofs.two_phase.first_mixed.Goals as goal

pub loop-number-preserved : goal.loop-number-preserved
loop-number-preserved c = record {
  keep = λ n class below is.
      elim (cases_lt n c.loop-number.number) [
        | inl earlier ↦ c.loop-number.invariant.keep n class earlier is
        | inr late ↦ (let here : n ≡ c.loop-number.number = omega arith in c.in_default.ensures.none class (subst (λ m. IsClass c.args.classes.now m class) here is))
      ];
  entry_room = c.judge_class.ensures.entry_room;
  path_room = c.judge_class.ensures.path_room;
  known = c.judge_class.ensures.known;
}

pub returns-in-Some-clause-some : goal.returns-in-Some-clause-some
returns-in-Some-clause-some c = record {
  is_mixed = c.in-Some.ensures.some;
  earlier = λ n other less is. c.loop-number.invariant.keep n other (let e = c.in-Some.ensures.number in omega arith) is;
}

pub returns-clause-none : goal.returns-clause-none
returns-clause-none c =
    λ n class is.
    let fits = number_fits c.args.classes.now n class is in
    let all : n < c.loop-number.number = (let past = c.loop-number-test.false in let end = c.count-number-end.ensures.count in omega arith) in
    c.loop-number.invariant.keep n class all is
