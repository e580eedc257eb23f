-- How a run ends, by the answer that its dialogue leads to.
use Rattle.std.specs.Prelude.{◌≡◌, ◌≢◌, ℕ, List, Option, None, Some}
use Rattle.std.specs.Io.KnownBytes.{Appends, Keeps}
use Rattle.file_access.specs.Outside.{Files, AppendsFront}
use Rattle.command_base.specs.declared.status.Status.{Status}
use Rattle.command_base.specs.declared.status.Status.TheVariants as status
use Rattle.command_base.specs.Answers.{Answer}
use Rattle.command_base.specs.Dialogues.{Dialogue, LeadsTo}
use Rattle.command_base.specs.Meanings.{IsAnswerOver}

-- it neither failed at the outside nor wanted memory
pub record IsComplete (s : Status) : Type 0 where
  pub read : s ≢ status.ReadFault
  pub written : s ≢ status.WriteFault
  pub memory : s ≢ status.Memory

-- The dialogue leads to this status, and to a text that was written whole. At a fault of writing a front of
-- the text was written, and nothing at a fault of reading or for want of memory.
abbrev pub EndsAs : {E : Type 0} → (E → Answer → Type 0) → Option Files → Dialogue E → Option (List ℕ) → Option (List ℕ) → List ℕ → ℕ → Status → Type 0
EndsAs says held dialogue old new selected taken status.ReadFault = Keeps old new
EndsAs says held dialogue old new selected taken status.Memory = Keeps old new
EndsAs says held dialogue old new selected taken status.WriteFault =
    (answer : Answer) × LeadsTo says held None dialogue answer selected taken × AppendsFront old new answer.text
EndsAs says held dialogue old new selected taken other =
    (answer : Answer) × LeadsTo says held None dialogue answer selected taken × (answer.status ≡ other) × Appends old new answer.text

-- a settled run over these files has the status and the whole text of the answer of the dialogue
pub record Answered {E : Type 0} (says : E → Answer → Type 0) (files : Files) (dialogue : Dialogue E) (old new : Option (List ℕ)) (result : Status) : Type 0 where
  pub answer : Answer
  pub over : IsAnswerOver says files dialogue answer
  pub status_is : answer.status ≡ result
  pub written : Appends old new answer.text

-- where the source tells, the answer is the one over its files: a settled run has its status and wrote its whole text
abbrev pub AnswersAll : {E : Type 0} → (E → Answer → Type 0) → Option Files → Dialogue E → Option (List ℕ) → Option (List ℕ) → Status → Type 0
AnswersAll says None dialogue old new result = Unit {0}
AnswersAll says (Some files) dialogue old new result = Answered says files dialogue old new result

-- where the source tells, a front of the text of the answer over its files was written
abbrev pub AnswersFront : {E : Type 0} → (E → Answer → Type 0) → Option Files → Dialogue E → Option (List ℕ) → Option (List ℕ) → Type 0
AnswersFront says None dialogue old new = Unit {0}
AnswersFront says (Some files) dialogue old new = (answer : Answer) × IsAnswerOver says files dialogue answer × AppendsFront old new answer.text
