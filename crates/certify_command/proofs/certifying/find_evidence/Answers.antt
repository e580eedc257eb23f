use Rattle.std.proofs.Common.{◌≡◌, false, Result, Ok, Err}
use Rattle.std.specs.Prelude.{IfErr}
use Rattle.certificates.specs.Certified.{IsCertified, is_two_phase}
use Rattle.certificates.specs.declared.Evidence.TheVariants.{Ordered}
use Rattle.certificates.specs.declared.OrderedEvidence.{OrderedEvidence}
use Rattle.check_base.specs.Checks.{CheckMeaning, task_in}
use Rattle.command_base.specs.Updates.{meaning_of}
use Rattle.round_certifier.specs.Refusals.{OfRefusal}
use Rattle.round_certifier.specs.declared.refusal.CertifyFault.{CertifyFault}
use Rattle.round_certifier.specs.declared.refusal.CertifyFault.TheVariants.{Refused, Memory}
use Rattle.certify_command.specs.Answers.{IsCertifiable}
use Rattle.certify_command.proofs.certifying.find_evidence.Goals as goal

-- where no evidence certifies the rounds of an ordered plan, they aren't certifiable
none_certifies : (m : CheckMeaning) (result : Result OrderedEvidence CertifyFault)
    → IfErr result (OfRefusal (λ _. is_two_phase m.plan.evidence ≡ false → (e : OrderedEvidence) → ¬ IsCertified (task_in m) (Ordered e)))
    → IfErr result (OfRefusal (λ _. ¬ IsCertifiable m))
none_certifies m (Ok e) none = tt
none_certifies m (Err (Refused cause)) none = λ is. none is.ordered is.evidence is.certified
none_certifies m (Err Memory) none = tt

pub returns-clause-none : goal.returns-clause-none
returns-clause-none c = none_certifies (record { update = meaning_of c.args.files.now; plan = c.args.plan.now }) c.certify.result c.certify.ensures.none
