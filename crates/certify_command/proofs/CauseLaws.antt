-- A class that a cause names is one of the classes.
use Rattle.std.proofs.Common.{◌<◌, IfSome}
use Rattle.dest_classes.specs.Classes.{class_count}
use Rattle.dest_classes.proofs.MapLaws.{number_fits}
use Rattle.certificates.specs.Certified.{classes_for}
use Rattle.check_reasons.specs.Cases.{CaseView}
use Rattle.check_base.proofs.ReasonLaws.{common_fits}
use Rattle.round_certifier.specs.Refusals.{IsCause, IsFirstRefusal, common_reason, some_rewrite, two_phase_plan, no_evidence}
use Rattle.round_certifier.specs.declared.refusal.Refusal.{Refusal}
use Rattle.certify_command.specs.Lines.{class_of_cause}

abbrev CauseFits : CaseView → Refusal → Type 0
CauseFits v cause = IfSome (class_of_cause cause) (λ n. n < class_count (classes_for v.task))

is_cause_fits : (v : CaseView) (cause : Refusal) → IsCause v cause → CauseFits v cause
is_cause_fits v cause (common_reason reason common) = common_fits v.task 0 reason common
is_cause_fits v cause (some_rewrite k s has) = tt
is_cause_fits v cause (two_phase_plan is) = tt
is_cause_fits v cause (no_evidence k n none) = number_fits (classes_for v.task) n none.class none.judged.is

pub cause_fits : (v : CaseView) (cause : Refusal) → IsFirstRefusal v cause → CauseFits v cause
cause_fits v cause first = is_cause_fits v cause first.cause
