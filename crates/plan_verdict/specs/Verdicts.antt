-- The verdict on a plan.
use Rattle.std.specs.Prelude.{◌⊎◌, ◌≤◌, Option}
use Rattle.dest_classes.specs.Classes.{class_count}
use Rattle.dest_classes.specs.declared.Class.{Class}
use Rattle.certificates.specs.Updates.{Task}
use Rattle.certificates.specs.Certified.{IsCertified, classes_for, is_two_phase}
use Rattle.certificates.specs.Consistent.{IsConsistent}
use Rattle.certificates.specs.declared.Evidence.{Evidence}
use Rattle.check_reasons.specs.Reasons.{IsFirstReason}
use Rattle.check_reasons.specs.declared.reason.Reason.{Reason}
use Rattle.plan_checker.specs.Fits.{FitsPlan}
use Rattle.plan_checker.specs.declared.room.CheckRoom.{CheckRoom}
use Rattle.command_base.specs.Answers.{Answer}
use Rattle.command_base.specs.Judgements.{SaysTooMany, SaysWhyNot, most_classes}
use Rattle.check_base.specs.Checks.{IsNamed, IsRefusedLine}
use Rattle.check_base.specs.ReasonLines.{class_named}
use Rattle.plan_verdict.specs.declared.verdict.PlanVerdict.{PlanVerdict}
use Rattle.plan_verdict.specs.declared.verdict.PlanVerdict.TheVariants.{Certified, Refused}

-- there are few enough classes, the plan is certified and so keeps every packet of every run consistent, and the room has its classes
pub record IsCertifiedIn (t : Task) (evidence : Evidence) (room : CheckRoom) : Type 0 where
  pub few : class_count (classes_for t) ≤ most_classes
  pub certified : IsCertified t evidence
  pub consistent : IsConsistent t.update t.rounds (is_two_phase evidence)
  pub fits : FitsPlan t evidence room

-- there are few enough classes, the plan isn't certified, this is the first reason, and this the class that it names
pub record IsRefusedFor (t : Task) (evidence : Evidence) (reason : Reason) (class : Option Class) : Type 0 where
  pub few : class_count (classes_for t) ≤ most_classes
  pub fails : ¬ IsCertified t evidence
  pub first : IsFirstReason t evidence reason
  pub named : IsNamed (classes_for t) (class_named reason) class

-- the verdict on the plan: certified, or why not
abbrev pub IsVerdictOn : Task → Evidence → PlanVerdict → Type 0
IsVerdictOn t evidence (Certified room) = IsCertifiedIn t evidence room
IsVerdictOn t evidence (Refused reason class) = IsRefusedFor t evidence reason class

-- the answer says that there are too many classes, or the first reason why the plan isn't certified
abbrev pub IsPlanRefusal : Task → Evidence → Answer → Type 0
IsPlanRefusal t evidence answer =
    SaysTooMany (class_count (classes_for t)) answer ⊎ SaysWhyNot (class_count (classes_for t)) (IsCertified t evidence) (IsRefusedLine t evidence) answer
