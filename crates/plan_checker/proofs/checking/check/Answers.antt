use Rattle.std.proofs.Common.{◌≡◌, length}
use Rattle.std.specs.Prelude.{sum_by}
use Rattle.certificates.specs.Laws.{task_of}
use Rattle.check_reasons.specs.declared.reason.Verdict.TheVariants.{Accepted, Refused}
use Rattle.plan_checker.proofs.Stages.{picks_ascend, reason_refuses}
use Rattle.plan_checker.proofs.checking.check.Goals as goal

pub returns-in-Some-clause-accepted : goal.returns-in-Some-clause-accepted
returns-in-Some-clause-accepted c =
    let plan = c.args.plan.now in (
      λ e. absurd (let f : Refused c.in-Some.reason ≡ Accepted = e in cc),
      λ certified.
          absurd
          (reason_refuses (task_of c.args.net.now c.args.old.now c.args.new.now c.args.demands.now plan) plan.evidence c.requires.old.count
          (picks_ascend c.args.net.now (length plan.rounds) (sum_by length plan.rounds) plan.evidence c.requires.plan.evidence) c.in-Some.reason c.in-Some.ensures.some certified),
    )
