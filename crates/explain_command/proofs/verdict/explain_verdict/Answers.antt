use Rattle.std.proofs.Common.{inl}
use Rattle.std.proofs.lemmas.Result.{IfOk-weaker}
use Rattle.certificates.specs.Certified.{classes_for}
use Rattle.certificates.specs.Updates.{task_for}
use Rattle.command_base.specs.Updates.{meaning_of}
use Rattle.explain_command.proofs.verdict.explain_verdict.Goals as goal

pub returns-in-Err : goal.returns-in-Err
returns-in-Err c =
    IfOk-weaker c.no_classes_reply.result _ _ (λ r says. inl (says (classes_for (task_for (meaning_of c.args.files.now) c.args.plan.now)) c.in-Err.ensures.too_many)) c.no_classes_reply.ensures
