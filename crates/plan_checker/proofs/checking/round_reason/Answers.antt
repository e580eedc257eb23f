use Rattle.std.proofs.Common.{rules}
use Rattle.check_reasons.specs.Ranks.{round_start, classes_start}
use Rattle.plan_checker.proofs.Stages.{case_ascends, from_none, none_before_round, none_before_classes, rounds_more}
use Rattle.plan_checker.proofs.checking.round_reason.Goals as goal

pub returns-in-Some-clause-some : goal.returns-in-Some-clause-some
returns-in-Some-clause-some c =
    let case = c.args.case.now in
    from_none case.task case.evidence (round_start c.args.k) c.in-Some.reason
    (none_before_round case.task case.evidence c.keeps_rules.ensures.old_user.count (case_ascends case c.keeps_rules.ensures) c.requires.ends c.args.k c.requires.before)
    c.in-Some.ensures.some

pub returns-in-Some-judge_round-clause-some : goal.returns-in-Some-judge_round-clause-some
returns-in-Some-judge_round-clause-some c =
    let case = c.args.case.now in
    from_none case.task case.evidence (classes_start c.args.k) c.in-Some-judge_round.reason
    (none_before_classes case.task case.evidence c.keeps_rules.ensures.old_user.count (case_ascends case c.keeps_rules.ensures) c.requires.ends c.args.k c.requires.before c.in_default.ensures.none.0)
    c.in-Some-judge_round.ensures.some

pub returns-clause-none : goal.returns-clause-none
returns-clause-none c =
    let case = c.args.case.now in (
      rounds_more case.task case.evidence c.args.k c.requires.before c.in_default.ensures.none.0 c.in_default-judge_round.ensures.none,
      record {
        fits = search rules;
        tables = c.apply_round.ensures.stands;
        evidence = c.in_default-judge_round.ensures.stands;
      },
    )
