-- Why rounds have no evidence, and which cause comes first.
use Rattle.std.specs.Prelude.{◌≡◌, ℕ, suc, true, List}
use Rattle.net_base.specs.declared.ids.SwitchId.{SwitchId}
use Rattle.dest_classes.specs.declared.Class.{Class}
use Rattle.certificates.specs.Ordered.{IsSafe}
use Rattle.certificates.specs.Updates.{Task, rollout}
use Rattle.certificates.specs.Certified.{is_two_phase}
use Rattle.check_reasons.specs.Cases.{CaseView}
use Rattle.check_reasons.specs.Ranks.{Rank, IsBefore, rank_of, least_class_number}
use Rattle.check_reasons.specs.Reasons.{IsCommonReason, HasRewrite, IsJudged, class_duties}
use Rattle.check_reasons.specs.declared.reason.Reason.{Reason}
use Rattle.check_reasons.specs.declared.reason.Reason.TheVariants.{Rewrites}
use Rattle.round_certifier.specs.declared.refusal.Refusal.{Refusal}
use Rattle.round_certifier.specs.declared.refusal.Refusal.TheVariants.{Checked, TwoPhasePlan, NoEvidence}
use Rattle.round_certifier.specs.declared.refusal.CertifyFault.{CertifyFault}
use Rattle.round_certifier.specs.declared.refusal.CertifyFault.TheVariants.{Refused, Memory}

-- no numbering and no before sets keep class n safe in round k
pub record HasNoEvidence (t : Task) (k n : ℕ) : Type 0 where
  pub class : Class
  pub judged : IsJudged t k n class
  pub never : (numbers : List ℕ) (sets : List (List ℕ)) → ¬ IsSafe (rollout t) k class.first class.entry (class_duties t class) numbers sets

-- a cause of a refusal: a reason of the checker that doesn't speak of evidence, a plan that is a two-phase plan, or a class that
-- no evidence keeps safe in a round
pub data IsCause (c : CaseView) : Refusal → Type 0 where
  common_reason : (reason : Reason) → IsCommonReason c.task 0 reason → IsCause c (Checked reason)
  some_rewrite : (k : ℕ) (s : SwitchId) → HasRewrite (rollout c.task) k s → IsCause c (Checked (Rewrites (suc k) s))
  two_phase_plan : is_two_phase c.evidence ≡ true → IsCause c TwoPhasePlan
  no_evidence : (k n : ℕ) → HasNoEvidence c.task k n → IsCause c (NoEvidence (suc k) n)

-- where a cause stands: a reason where the checker has it, a two-phase plan before the rounds, and a class without evidence where
-- the reasons of the classes of its round begin
abbrev pub place_of : Refusal → Rank
place_of (Checked reason) = rank_of 0 reason
place_of TwoPhasePlan = record { stage = 2; round = 0; number = 0; class = 0; position = 0; switch = 0; change = 0 }
place_of (NoEvidence round n) = record { stage = 2; round = round; number = least_class_number; class = n; position = 0; switch = 0; change = 0 }

-- the first cause: no other comes before it
pub record IsFirstRefusal (c : CaseView) (refusal : Refusal) : Type 0 where
  pub cause : IsCause c refusal
  pub first : (other : Refusal) → IsCause c other → ¬ IsBefore (place_of other) (place_of refusal)

-- this holds of the refusal, if memory was not what was wanting
abbrev pub OfRefusal : (Refusal → Type 0) → CertifyFault → Type 0
OfRefusal P (Refused refusal) = P refusal
OfRefusal P Memory = Unit {0}
