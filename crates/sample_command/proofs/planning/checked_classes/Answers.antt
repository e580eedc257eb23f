use Rattle.std.proofs.Common.{subst, arith}
use Rattle.dest_classes.specs.Numbered.{IsCauseOf}
use Rattle.certificates.specs.Certified.{classes_for}
use Rattle.certificates.specs.Updates.{task_for}
use Rattle.command_base.specs.Updates.{meaning_of}
use Rattle.plan_verdict.specs.Verdicts.{IsVerdictOn}
use Rattle.sample_command.proofs.planning.checked_classes.Goals as goal

pub unreachable-requires : goal.unreachable-requires
unreachable-requires c =
    let refused = subst (IsVerdictOn (task_for (meaning_of c.args.files.now) c.args.plan.now) c.args.plan.now.evidence) c.in-Ok-Refused.field-0-is c.in-Ok-Refused.ensures.verdict in
    refused.fails c.requires.certified

pub unreachable-requires-in-Err-TooManyClasses : goal.unreachable-requires-in-Err-TooManyClasses
unreachable-requires-in-Err-TooManyClasses c =
    let cause = subst (IsCauseOf (classes_for (task_for (meaning_of c.args.files.now) c.args.plan.now))) c.in-Err-TooManyClasses.field-0-is c.in-Err-TooManyClasses.ensures.none in
    let is = cause.0 in
    let many = cause.1 in
    omega (arith, c.requires.few)
