use Rattle.std.proofs.lemmas.Result.{IfOk-weaker}
use Rattle.command_base.specs.Updates.{meaning_of}
use Rattle.command_base.specs.Replies.{answer_of}
use Rattle.explain_command.proofs.AnswerLaws.{round_answer}
use Rattle.explain_command.proofs.verdict.judge_rounds.Goals as goal

pub returns-in-Some : goal.returns-in-Some
returns-in-Some c =
    let first = rw c.in-Some.is at c.in_ok-reason.ensures.some in
    IfOk-weaker c.refused_reply.result _ _
    (λ r is. round_answer (record { update = meaning_of c.args.files.now; plan = c.args.plan.now }) (answer_of r) c.requires.fits.classed.few c.in-Some.reason c.requires.ends first is)
    c.refused_reply.ensures
