use Rattle.std.proofs.Common.{sym, subst, IfSome, ◌<◌}
use Rattle.std.proofs.lemmas.Result.{IfOk-weaker}
use Rattle.dest_classes.specs.Classes.{ClassList, class_count}
use Rattle.check_base.specs.ReasonLines as lines
use Rattle.check_base.specs.Checks.{IsNamed}
use Rattle.certificates.specs.Updates.{task_for}
use Rattle.command_base.specs.Updates.{meaning_of}
use Rattle.command_base.specs.Replies.{answer_of}
use Rattle.check_base.proofs.ReasonLaws.{named_fits}
use Rattle.explain_command.proofs.AnswerLaws.{end_answer}
use Rattle.explain_command.proofs.verdict.judge_plan.Goals as goal

pub class_of-class-requires : goal.class_of-class-requires
class_of-class-requires c =
    let are = c.in-Some.ensures.fits.classed.map in
    subst (λ (classes : ClassList). IfSome (lines.class_named c.in-Some.reason) (λ n. n < class_count classes)) (sym are)
    (named_fits (task_for (meaning_of c.args.files.now) c.args.plan.now) c.args.plan.now.evidence c.in-Some.reason c.in-Some.ensures.some)

pub returns-in-Some : goal.returns-in-Some
returns-in-Some c =
    let are = c.in-Some.ensures.fits.classed.map in
    let named = subst (λ (classes : ClassList). IsNamed classes (lines.class_named c.in-Some.reason) c.class_of-class.result) are c.class_of-class.ensures in
    IfOk-weaker c.refused_reply.result _ _
    (λ r is. end_answer (record { update = meaning_of c.args.files.now; plan = c.args.plan.now }) (answer_of r) c.requires.fits.classed.few c.in-Some.reason c.class_of-class.result c.in-Some.ensures.some c.in-Some.ensures.fails named is)
    c.refused_reply.ensures
