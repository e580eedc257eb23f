use Rattle.std.proofs.lemmas.Option.{IfSome_then}
use Rattle.certificates.specs.Certified.{IsCertified}
use Rattle.check_reasons.specs.Ranks.{end_start}
use Rattle.plan_checker.specs.Checking.{EndsAtNew}
use Rattle.plan_checker.proofs.GoodLaws.{IfNone_then}
use Rattle.plan_checker.proofs.Stages.{case_ascends, from_none, none_before_last, all_passed}
use Rattle.plan_checker.proofs.checking.first_reason.Goals as goal

pub returns-clause-none : goal.returns-clause-none
returns-clause-none c =
    let case = c.args.case.now in
    IfNone_then c.wrong_end.result (EndsAtNew case.task) (IsCertified case.task case.evidence) c.wrong_end.ensures.none
    (λ ends. all_passed case.task case.evidence c.in_default.ensures.none c.in_default-rounds_reason.ensures.none.0 ends)

pub returns-clause-some : goal.returns-clause-some
returns-clause-some c =
    let case = c.args.case.now in
    IfSome_then c.wrong_end.result c.wrong_end.ensures.some
    (λ r first. from_none case.task case.evidence end_start r
    (none_before_last case.task case.evidence c.keeps_rules.ensures.old_user.count (case_ascends case c.keeps_rules.ensures) c.in_default.ensures.none c.in_default-rounds_reason.ensures.none.0) first)
