use Rattle.std.proofs.Common.{◌≡◌, length, Result, Ok, Err, false, sym, ◌∙◌, ap}
use Rattle.std.specs.Prelude.{IfErr}
use Rattle.topology.specs.Networks.{switch_count}
use Rattle.certificates.specs.Certified.{IsCertified, is_two_phase}
use Rattle.certificates.specs.declared.Evidence.TheVariants.{Ordered}
use Rattle.certificates.specs.declared.OrderedEvidence.{OrderedEvidence}
use Rattle.check_reasons.specs.Cases.{CaseView}
use Rattle.round_certifier.specs.Refusals.{IsFirstRefusal, OfRefusal}
use Rattle.round_certifier.specs.declared.refusal.CertifyFault.{CertifyFault}
use Rattle.round_certifier.specs.declared.refusal.CertifyFault.TheVariants.{Refused, Memory}
use Rattle.round_certifier.proofs.RefusalLaws.{end_first, kind_first, cause_refuted}
use Rattle.round_certifier.proofs.certifying.certify.Goals as goal

pub returns-in-Some-clause-refused : goal.returns-in-Some-clause-refused
returns-in-Some-clause-refused c =
    end_first c.args.case.now c.keeps_rules.ensures.old_user.count c.in-Some.reason c.in-Some.ensures.some c.in-Some.ensures.place

pub returns-then-is_two_phase-clause-refused : goal.returns-then-is_two_phase-clause-refused
returns-then-is_two_phase-clause-refused c =
    kind_first c.args.case.now c.keeps_rules.ensures.old_user.count c.in_default.ensures.none
    (sym (ap (λ (v : CaseView). is_two_phase v.evidence) c.case.view_is) ∙ sym c.is_two_phase.ensures ∙ c.if-is_two_phase.true)

-- no evidence certifies what is refused by a first cause
refused_none : (c : CaseView) → length c.task.update.old ≡ switch_count c.task.update.net → (result : Result OrderedEvidence CertifyFault) → IfErr result (OfRefusal (IsFirstRefusal c))
    → IfErr result (OfRefusal (λ _. is_two_phase c.evidence ≡ false → (e : OrderedEvidence) → ¬ IsCertified c.task (Ordered e)))
refused_none c count (Ok e) h = tt
refused_none c count (Err (Refused r)) h = λ ordered e certified. cause_refuted c count e certified ordered r h.cause
refused_none c count (Err Memory) h = tt

pub returns-clause-none : goal.returns-clause-none
returns-clause-none c = refused_none c.args.case.now c.keeps_rules.ensures.old_user.count c.certify_rounds.result c.certify_rounds.ensures.refused
