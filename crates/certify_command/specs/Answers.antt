-- What `certify` says of the rounds of a plan.
use Rattle.std.specs.Prelude.{◌≡◌, ℕ, List, Option, Some, Ok, false}
use Rattle.std.specs.Io.KnownBytes.{Appends}
use Rattle.file_access.specs.Outside.{Files}
use Rattle.dest_classes.specs.declared.Class.{Class}
use Rattle.certificates.specs.Updates.{rollout}
use Rattle.certificates.specs.Certified.{IsCertified, classes_for, is_two_phase}
use Rattle.certificates.specs.Consistent.{IsConsistent}
use Rattle.certificates.specs.declared.Evidence.TheVariants.{Ordered}
use Rattle.certificates.specs.declared.OrderedEvidence.{OrderedEvidence}
use Rattle.certificates.specs.declared.Plan.{Plan}
use Rattle.check_reasons.specs.Cases.{CaseView}
use Rattle.plan_format.specs.Plans.{plan_in}
use Rattle.plan_text.specs.PlanText.{plan_text}
use Rattle.command_base.specs.Names.{UpdateNames}
use Rattle.command_base.specs.Answers.{Answer}
use Rattle.command_base.specs.Judgements.{IsJudgement}
use Rattle.check_base.specs.Checks.{CheckMeaning, IsNamed, check_count, task_in}
use Rattle.round_judge.specs.Evidence.{IsSearchEvidence}
use Rattle.round_certifier.specs.Refusals.{IsFirstRefusal}
use Rattle.round_certifier.specs.Standing.{target_for}
use Rattle.round_certifier.specs.declared.refusal.Refusal.{Refusal}
use Rattle.certify_command.specs.Lines.{uncertified_line, class_of_cause}

-- the update with the evidence that its plan has
abbrev pub case_in : CheckMeaning → CaseView
case_in m = record { task = task_in m; evidence = m.plan.evidence }

-- the rounds of the plan, with other evidence
abbrev pub plan_with : CheckMeaning → OrderedEvidence → Plan
plan_with m e = record { rounds = m.plan.rounds; evidence = Ordered e }

-- the plan is an ordered one, and some evidence certifies its rounds
pub record IsCertifiable (m : CheckMeaning) : Type 0 where
  pub ordered : is_two_phase m.plan.evidence ≡ false
  pub evidence : OrderedEvidence
  pub certified : IsCertified (task_in m) (Ordered evidence)

-- the text is that of the plan with these rounds and with the evidence that the search makes for them: it means that plan, which is
-- certified and keeps every packet of every run consistent
pub record IsCertifiedText (m : CheckMeaning) (text : List ℕ) : Type 0 where
  pub evidence : OrderedEvidence
  pub searched : IsSearchEvidence (target_for (task_in m)) (rollout (task_in m)) evidence
  pub text_is : text ≡ plan_text m.update.net (plan_with m evidence)
  pub means : plan_in m.update.net text ≡ Ok (plan_with m evidence)
  pub certified : IsCertified (task_in m) (Ordered evidence)
  pub consistent : IsConsistent m.update m.plan.rounds false

-- the line names the first cause for which no evidence certifies the rounds
pub record IsCauseLine (m : CheckMeaning) (line : List ℕ) : Type 0 where
  pub cause : Refusal
  pub first : IsFirstRefusal (case_in m) cause
  pub class : Option Class
  pub named : IsNamed (classes_for (task_in m)) (class_of_cause cause) class
  pub line_is : line ≡ uncertified_line m.update.net class cause

-- the answer of `certify`: too many classes; the text of a certified plan with these rounds; or why none has them
abbrev pub IsCertifyAnswer : CheckMeaning → Answer → Type 0
IsCertifyAnswer m answer = IsJudgement (check_count m) (IsCertifiable m) (IsCertifiedText m answer.text) answer.text (IsCauseLine m) answer

-- the other files are the same under the names of an update, and hold this text under a further name
pub record HoldBeside (files others : Files) (names : UpdateNames) (plan text : List ℕ) : Type 0 where
  pub topology : others names.topology ≡ files names.topology
  pub old : others names.old ≡ files names.old
  pub new : others names.new ≡ files names.new
  pub policy : others names.policy ≡ files names.policy
  pub plan_is : others plan ≡ Some text

-- the text of a certified plan with these rounds was written
pub record WritesCertifiedText (m : CheckMeaning) (old new : Option (List ℕ)) : Type 0 where
  pub text : List ℕ
  pub is_text : IsCertifiedText m text
  pub written : Appends old new text
