use Rattle.std.proofs.Common.{List, ap, ◌∙◌, inr, Some}
use Rattle.std.proofs.lemmas.Result.{IfOk-weaker}
use Rattle.check_reasons.specs.declared.reason.Reason.{Reason}
use Rattle.check_base.specs.ReasonLines.{refused_line}
use Rattle.command_base.specs.Updates.{meaning_of}
use Rattle.command_base.specs.Answers.{Answer}
use Rattle.command_base.specs.Replies.{answer_of}
use Rattle.command_base.specs.declared.status.Status.TheVariants as status
use Rattle.plan_command.proofs.NewPlanLaws.{end_law}
use Rattle.plan_command.proofs.ends.break_reply.Goals as goal

pub returns : goal.returns
returns c =
    let u = meaning_of c.args.files.now in
    let line = ap (λ (reason : Reason). let a : Answer = record { status = status.Refused; text = refused_line u.net (Some c.args.class) reason } in a) c.of_end.ensures in
    IfOk-weaker c.refused_reply.result _ _ (λ r is. inr (end_law u c.args.end c.args.class (answer_of r) c.requires (is ∙ line))) c.refused_reply.ensures
