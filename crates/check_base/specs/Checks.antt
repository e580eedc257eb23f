-- What the files of `check` mean, and why a plan is refused.
use Rattle.std.specs.Prelude.{◌≡◌, ℕ, List, Option, None, Some}
use Rattle.file_access.specs.Outside.{Files}
use Rattle.dest_classes.specs.Classes.{ClassList, IsClass, class_count}
use Rattle.dest_classes.specs.declared.Class.{Class}
use Rattle.certificates.specs.Updates.{Task, Update, task_for}
use Rattle.certificates.specs.Certified.{IsCertified, classes_for}
use Rattle.certificates.specs.declared.Evidence.{Evidence}
use Rattle.certificates.specs.declared.Plan.{Plan}
use Rattle.check_reasons.specs.declared.reason.Reason.{Reason}
use Rattle.check_reasons.specs.Reasons.{IsFirstReason}
use Rattle.plan_format.specs.Plans.{plan_in}
use Rattle.command_base.specs.declared.kinds.FileKind.TheVariants as kind
use Rattle.command_base.specs.declared.status.Status.{Status}
use Rattle.command_base.specs.JudgedFiles.{FilesAreGood, RefusalPromise}
use Rattle.command_base.specs.Dialogues.{Dialogue, Ends, and_then}
use Rattle.command_base.specs.Meanings.{IsReadAs}
use Rattle.command_base.specs.Readings.{reading_update, reading_plan}
use Rattle.command_base.specs.Updates.{FilesMeanUpdate, meaning_of}
use Rattle.check_base.specs.declared.check_files.CheckFiles.{CheckFiles}
use Rattle.check_base.specs.Names.{CheckNames}
use Rattle.check_base.specs.ReasonLines.{refused_line, class_named}

-- an update, and a plan of it
pub record CheckMeaning : Type 0 where
  pub update : Update
  pub plan : Plan

-- the meaning of an update and a plan that were read
abbrev pub check_meaning_of : CheckFiles → CheckMeaning
check_meaning_of files = record { update = meaning_of files.update; plan = files.plan }

-- the update by the rounds of its plan
abbrev pub task_in : CheckMeaning → Task
task_in m = task_for m.update m.plan

-- reads a plan of the update
abbrev pub reading_plan_of : Update → List ℕ → Dialogue CheckMeaning
reading_plan_of u name = and_then (reading_plan u.net name) (λ p. Ends (record { update = u; plan = p }))

-- reads an update and its plan
unfoldable pub check_dialogue : CheckNames → Dialogue CheckMeaning
check_dialogue names = and_then (reading_update names.update) (λ u. reading_plan_of u names.plan)

-- the class of the number that is named, if one is
abbrev pub IsNamed : ClassList → Option ℕ → Option Class → Type 0
IsNamed classes None class = class ≡ None
IsNamed classes (Some n) None = ⊥
IsNamed classes (Some n) (Some class) = IsClass classes n class

-- the line names the first reason why the plan isn't certified
pub record IsRefusedLine (t : Task) (evidence : Evidence) (line : List ℕ) : Type 0 where
  pub reason : Reason
  pub first : IsFirstReason t evidence reason
  pub class : Option Class
  pub named : IsNamed (classes_for t) (class_named reason) class
  pub line_is : line ≡ refused_line t.update.net class reason

-- the files mean this update, and this plan of it
pub record FilesMeanPlan (files : Files) (names : CheckNames) (m : CheckMeaning) : Type 0 where
  pub update_is : FilesMeanUpdate files names.update m.update
  pub plan_is : IsReadAs files kind.Plan (plan_in m.update.net) names.plan m.plan

-- how many classes the update has by the plan
abbrev pub check_count : CheckMeaning → ℕ
check_count m = class_count (classes_for (task_in m))

-- the plan is certified
abbrev pub IsCertifiedPlan : CheckMeaning → Type 0
IsCertifiedPlan m = IsCertified (task_in m) m.plan.evidence

-- the line names the first reason why the plan isn't certified
abbrev pub IsReasonLine : CheckMeaning → List ℕ → Type 0
IsReasonLine m line = IsRefusedLine (task_in m) m.plan.evidence line

-- the files are read, there are few enough classes, and the plan is certified
abbrev pub FilesAreCertified : Files → CheckNames → Type 0
FilesAreCertified files names = FilesAreGood (FilesMeanPlan files names) check_count IsCertifiedPlan

-- The run refuses exactly the plans that aren't certified, by a line that names the first reason, and too many classes.
abbrev pub RefusesUncertified : Files → CheckNames → Option (List ℕ) → Option (List ℕ) → Status → Type 0
RefusesUncertified files names old new result = RefusalPromise (FilesMeanPlan files names) check_count IsCertifiedPlan IsReasonLine old new result
