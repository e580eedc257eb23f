use Rattle.std.proofs.Common.{◌<◌, IfSome, sym, subst, refl, inr}
use Rattle.std.proofs.lemmas.Result.{IfOk-weaker}
use Rattle.dest_classes.specs.Classes.{class_count}
use Rattle.command_base.specs.Updates.{meaning_of}
use Rattle.check_base.specs.Checks.{CheckMeaning, IsNamed}
use Rattle.round_certifier.specs.Refusals.{IsFirstRefusal, OfRefusal}
use Rattle.certify_command.specs.Answers.{IsCertifiable, case_in}
use Rattle.certify_command.specs.Lines.{uncertified_line, class_of_cause}
use Rattle.certify_command.proofs.CauseLaws.{cause_fits}
use Rattle.certify_command.proofs.certifying.judge_rounds.Goals as goal

pub named_class-class-requires : goal.named_class-class-requires
named_class-class-requires c =
    let m : CheckMeaning = record { update = meaning_of c.args.files.now; plan = c.args.plan } in
    let are = c.in-Err-Refused.ensures.fits.classed.map in
    subst (λ classes. IfSome (class_of_cause c.in-Err-Refused.cause) (λ n. n < class_count classes)) (sym are)
    (cause_fits (case_in m) c.in-Err-Refused.cause (subst (OfRefusal (IsFirstRefusal (case_in m))) c.in-Err-Refused.field-0-is c.in-Err-Refused.ensures.refused))

pub returns-in-Err-Refused : goal.returns-in-Err-Refused
returns-in-Err-Refused c =
    let m : CheckMeaning = record { update = meaning_of c.args.files.now; plan = c.args.plan } in
    let are = c.in-Err-Refused.ensures.fits.classed.map in
    IfOk-weaker c.cause_reply.result _ _
    (λ r is. inr (inr (record {
      few = c.requires.fits.classed.few;
      fails = subst (OfRefusal (λ _. ¬ IsCertifiable m)) c.in-Err-Refused.field-0-is c.in-Err-Refused.ensures.none;
      line = uncertified_line c.args.files.now.net c.named_class-class.result c.in-Err-Refused.cause;
      is_why = record {
        cause = c.in-Err-Refused.cause;
        first = subst (OfRefusal (IsFirstRefusal (case_in m))) c.in-Err-Refused.field-0-is c.in-Err-Refused.ensures.refused;
        class = c.named_class-class.result;
        named = subst (λ classes. IsNamed classes (class_of_cause c.in-Err-Refused.cause) c.named_class-class.result) are c.named_class-class.ensures;
        line_is = refl;
      };
      answer_is = is;
    })))
    c.cause_reply.ensures
