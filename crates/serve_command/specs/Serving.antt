-- What `serve` does with its files.
use Rattle.std.specs.Prelude.{◌≡◌, ◌⊎◌, ℕ, ◌≤◌, List, Option, None, Some}
use Rattle.std.specs.Io.KnownBytes.{Appends, Keeps}
use Rattle.file_access.specs.Outside.{Files, AppendsFront}
use Rattle.update_model.specs.declared.Change.{Change}
use Rattle.certificates.specs.Certified.{IsCertified}
use Rattle.round_inverses.specs.Rounds.{inverse_rounds}
use Rattle.plan_verdict.specs.Verdicts.{IsPlanRefusal}
use Rattle.command_base.specs.declared.kinds.FileKind.TheVariants as kind
use Rattle.command_base.specs.declared.status.Status.{Status}
use Rattle.command_base.specs.declared.status.Status.TheVariants as status
use Rattle.command_base.specs.Answers.{Answer}
use Rattle.command_base.specs.Dialogues.{Gives, file_read}
use Rattle.command_base.specs.Judgements.{most_classes}
use Rattle.command_base.specs.Runs.{EndsAs}
use Rattle.check_base.specs.declared.check_files.CheckFiles.{CheckFiles}
use Rattle.check_base.specs.Checks.{CheckMeaning, check_count, check_dialogue, check_meaning_of, task_in}
use Rattle.check_base.specs.Names.{CheckNames}
use Rattle.serve_command.specs.Served.{served_text}
use Rattle.serve_command.specs.Takes.{InputTake}
use Rattle.serve_command.specs.Stops.{EndsServing}

-- the meaning of an update and a plan that were read
abbrev pub meaning_of : CheckFiles → CheckMeaning
meaning_of files = check_meaning_of files

-- the text that answers lines over the driver of a plan, which can take each of its rounds back
abbrev pub text_on : CheckMeaning → List (List ℕ) → List ℕ
text_on m lines = served_text m.update.net m.plan.rounds (inverse_rounds m.update.old m.plan.rounds) lines

-- the answer says that there are too many classes, or why the plan isn't certified
abbrev pub SaysRefusal : CheckMeaning → Answer → Type 0
SaysRefusal m answer = IsPlanRefusal (task_in m) m.plan.evidence answer

-- a refusal was written whole; for want of memory nothing was written, and a front where writing failed
abbrev pub EndsRefused : CheckMeaning → Option (List ℕ) → Option (List ℕ) → Status → Type 0
EndsRefused m old new status.ReadFault = ⊥
EndsRefused m old new status.Memory = Keeps old new
EndsRefused m old new status.WriteFault = (answer : Answer) × SaysRefusal m answer × AppendsFront old new answer.text
EndsRefused m old new other = (answer : Answer) × SaysRefusal m answer × (answer.status ≡ other) × Appends old new answer.text

-- the plan is certified, over few enough classes, and its driver is served
pub record Serves (m : CheckMeaning) (held : Option Files) (old new : Option (List ℕ)) (taken : ℕ) (takes : Option (List InputTake)) (result : Status) : Type 0 where
  pub few : check_count m ≤ most_classes
  pub certified : IsCertified (task_in m) m.plan.evidence
  pub served : EndsServing (text_on m) held old new taken takes result

-- over the source the files mean an update and a plan that is served
pub record ServesFiles (held : Option Files) (names : CheckNames) (old new : Option (List ℕ)) (taken : ℕ) (takes : Option (List InputTake)) (result : Status) : Type 0 where
  pub meaning : CheckMeaning
  pub gives : Gives held None (check_dialogue names) meaning (Some (file_read kind.Plan names.plan))
  pub serves : Serves meaning held old new taken takes result

-- How `serve` ends: a file isn't read or the plan is refused, as `check` says, or the driver of the plan is served.
abbrev pub IsServeEnd : Option Files → CheckNames → Option (List ℕ) → Option (List ℕ) → List ℕ → ℕ → Option (List InputTake) → Status → Type 0
IsServeEnd held names old new selected taken takes result =
    EndsAs SaysRefusal held (check_dialogue names) old new selected taken result ⊎ ServesFiles held names old new taken takes result
