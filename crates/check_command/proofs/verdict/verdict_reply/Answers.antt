use Rattle.std.proofs.Common.{inl, inr, subst}
use Rattle.std.proofs.lemmas.Result.{IfOk-weaker}
use Rattle.certificates.specs.Certified.{classes_for}
use Rattle.certificates.specs.Updates.{task_for}
use Rattle.command_base.specs.Replies.{answer_of}
use Rattle.command_base.specs.Updates.{meaning_of}
use Rattle.plan_verdict.specs.Verdicts.{IsVerdictOn}
use Rattle.plan_verdict.proofs.RefusalLaws.{why_not}
use Rattle.check_command.proofs.verdict.verdict_reply.Goals as goal

pub returns-in-Ok-Refused : goal.returns-in-Ok-Refused
returns-in-Ok-Refused c =
    let t = task_for (meaning_of c.args.files.now) c.args.plan.now in
    let e = c.args.plan.now.evidence in
    let refused = subst (IsVerdictOn t e) c.in-Ok-Refused.field-0-is c.in-Ok-Refused.ensures.verdict in
    IfOk-weaker c.refused_reply.result _ _ (λ r is. inr (inr (why_not t e c.in-Ok-Refused.reason c.in-Ok-Refused.class (answer_of r) refused is))) c.refused_reply.ensures

pub returns-in-Err : goal.returns-in-Err
returns-in-Err c =
    IfOk-weaker c.no_classes_reply.result _ _ (λ r says. inl (says (classes_for (task_for (meaning_of c.args.files.now) c.args.plan.now)) c.in-Err.ensures.none)) c.no_classes_reply.ensures
