use Rattle.std.proofs.Common.{◌≡◌, length, sym, subst, ap, ◌∙◌, add-one, arith}
use Rattle.check_reasons.specs.Cases.{CaseView}
use Rattle.check_reasons.specs.Passed.{RoundsPass}
use Rattle.plan_checker.specs.Checking.{IsReadyToCheck}
use Rattle.plan_checker.proofs.checking.rounds_reason.Goals as goal

pub loop-k-preserved : goal.loop-k-preserved
loop-k-preserved c =
    let case = c.args.case.now in
    let next = sym (add-one c.loop-k.k) in
    record {
      passed = subst (λ k. RoundsPass c.args.case.now.task c.args.case.now.evidence k) next c.in_default.ensures.none.0;
      ready = subst (λ k. IsReadyToCheck c.args.case.now k c.round_reason.new.room) next c.in_default.ensures.none.1;
    }

pub returns-clause-none : goal.returns-clause-none
returns-clause-none c =
    let count : c.count-k-end.result ≡ length c.args.case.now.task.rounds = c.count-k-end.ensures ∙ ap (λ (v : CaseView). length v.task.rounds) c.case.view_is in
    let past = c.loop-k-test.false in
    let upto = c.loop-k.auto.k-end in
    let all : c.loop-k.k ≡ length c.args.case.now.task.rounds = omega arith in (
      subst (λ k. RoundsPass c.args.case.now.task c.args.case.now.evidence k) all c.loop-k.invariant.passed,
      subst (λ k. IsReadyToCheck c.args.case.now k c.loop-k.room) all c.loop-k.invariant.ready,
    )
