use Rattle.std.proofs.Common.{length, ap, arith}
use Rattle.check_reasons.specs.Cases.{CaseView}
use Rattle.plan_checker.proofs.tables.round_number.Goals as goal

pub overflow_cast-result : goal.overflow_cast-result
overflow_cast-result c =
    let same = ap (λ (v : CaseView). length v.task.rounds) c.case.view_is in
    omega (arith, c.case.invariant.valid.few_rounds)

pub overflow_add-result : goal.overflow_add-result
overflow_add-result c =
    let same = ap (λ (v : CaseView). length v.task.rounds) c.case.view_is in
    omega (arith, c.case.invariant.valid.few_rounds)
