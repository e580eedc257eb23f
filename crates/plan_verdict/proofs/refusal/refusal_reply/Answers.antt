use Rattle.std.proofs.Common.{inl}
use Rattle.certificates.specs.Certified.{classes_for}
use Rattle.certificates.specs.Updates.{task_for}
use Rattle.command_base.specs.Updates.{meaning_of}
use Rattle.plan_verdict.proofs.refusal.refusal_reply.Goals as goal

pub returns-in_ok-no_classes_reply-in-Err-clause-refused :
    goal.returns-in_ok-no_classes_reply-in-Err-clause-refused
returns-in_ok-no_classes_reply-in-Err-clause-refused c =
    inl (c.in_ok-no_classes_reply-in-Err.ensures (classes_for (task_for (meaning_of c.args.files.now) c.args.plan.now)) c.in-Err.ensures.none)
