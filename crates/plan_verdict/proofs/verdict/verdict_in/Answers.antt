use Rattle.std.proofs.Common.{◌∙◌, sym, subst, refl, IfSome, ◌<◌}
use Rattle.dest_classes.specs.Classes.{ClassList, class_count}
use Rattle.check_base.specs.Checks.{IsNamed}
use Rattle.check_base.specs.ReasonLines as lines
use Rattle.certificates.specs.Updates.{task_for}
use Rattle.command_base.specs.Updates.{meaning_of}
use Rattle.check_base.proofs.ReasonLaws.{named_fits}
use Rattle.plan_verdict.proofs.verdict.verdict_in.Goals as goal

pub class_of-class-requires : goal.class_of-class-requires
class_of-class-requires c =
    let are = c.classes.ensures ∙ c.in-Refused.ensures.fits.update.classed.map in
    subst (λ (classes : ClassList). IfSome (lines.class_named c.in-Refused.reason) (λ n. n < class_count classes)) (sym are)
    (named_fits (task_for (meaning_of c.args.files.now) c.args.plan.now) c.args.plan.now.evidence c.in-Refused.reason c.in-Refused.ensures.refused)

pub returns-in-Accepted : goal.returns-in-Accepted
returns-in-Accepted c = record {
  few = c.requires.fits.update.classed.few;
  certified = c.in-Accepted.ensures.accepted.0 refl;
  consistent = c.in-Accepted.ensures.consistent refl;
  fits = c.in-Accepted.ensures.fits;
}

pub returns-in-Refused : goal.returns-in-Refused
returns-in-Refused c =
    let are = c.classes.ensures ∙ c.in-Refused.ensures.fits.update.classed.map in
    record {
      few = c.requires.fits.update.classed.few;
      fails = λ certified. let is = c.in-Refused.ensures.accepted.1 certified in cc;
      first = c.in-Refused.ensures.refused;
      named = subst (λ (classes : ClassList). IsNamed classes (lines.class_named c.in-Refused.reason) c.class_of-class.result) are c.class_of-class.ensures;
    }
