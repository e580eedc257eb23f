-- What is said of a plan that isn't certified.
use Rattle.std.proofs.Common.{◌≡◌, Option, refl}
use Rattle.dest_classes.specs.Classes.{class_count}
use Rattle.dest_classes.specs.declared.Class.{Class}
use Rattle.certificates.specs.Updates.{Task}
use Rattle.certificates.specs.Certified.{IsCertified, classes_for}
use Rattle.certificates.specs.declared.Evidence.{Evidence}
use Rattle.check_reasons.specs.declared.reason.Reason.{Reason}
use Rattle.command_base.specs.Answers.{Answer}
use Rattle.command_base.specs.Judgements.{SaysWhyNot}
use Rattle.command_base.specs.declared.status.Status.TheVariants as status
use Rattle.check_base.specs.Checks.{IsRefusedLine}
use Rattle.check_base.specs.ReasonLines.{refused_line}
use Rattle.plan_verdict.specs.Verdicts.{IsRefusedFor}

-- the reply on the first reason says why the plan isn't certified
pub why_not : (t : Task) (e : Evidence) (reason : Reason) (class : Option Class) (answer : Answer) → IsRefusedFor t e reason class
    → answer ≡ record { status = status.Refused; text = refused_line t.update.net class reason } → SaysWhyNot (class_count (classes_for t)) (IsCertified t e) (IsRefusedLine t e) answer
why_not t e reason class answer is answer_is = record {
  few = is.few;
  fails = is.fails;
  line = refused_line t.update.net class reason;
  is_why = record { reason = reason; first = is.first; class = class; named = is.named; line_is = refl };
  answer_is = answer_is;
}
