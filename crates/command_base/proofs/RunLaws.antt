-- Where a source tells, what a dialogue leads to is the answer over its files.
use Rattle.std.proofs.Common.{◌≡◌, ℕ, List, None, Some, inl, inr}
use Rattle.std.specs.declared.option.Option.{Option}
use Rattle.std.specs.Io.KnownBytes.{Appends}
use Rattle.file_access.specs.Outside.{Files, AppendsFront}
use Rattle.command_base.specs.declared.status.Status.{Status}
use Rattle.command_base.specs.declared.status.Status.TheVariants as status
use Rattle.command_base.specs.Answers.{Answer}
use Rattle.command_base.specs.Dialogues.{Dialogue, Bad, Ends, Reads, FileRead, file_read, and_then, IsLedTo, LeadsTo}
use Rattle.command_base.specs.Meanings.{IsAnswerOver}
use Rattle.command_base.specs.Runs.{IsComplete, EndsAs, Answered, AnswersAll, AnswersFront}
use Rattle.command_base.proofs.MeaningLaws.{over_as}

leads_told : {E : Type 0} (says : E → Answer → Type 0) (files : Files) (last : Option FileRead) (d : Dialogue E) (answer : Answer) (selected : List ℕ) (taken : ℕ) → IsLedTo says (Some files) last d answer selected taken → IsAnswerOver says files d answer
leads_told says files last (Bad kind words) answer selected taken leads = leads.0
leads_told says files last (Ends end) answer selected taken leads = leads.0
leads_told says files last (Reads kind name next) answer selected taken (bytes, file, inl go) = (bytes, file, inl (go.0, leads_told says files (Some (file_read kind name)) (next bytes) answer selected taken go.1))
leads_told says files last (Reads kind name next) answer selected taken (bytes, file, inr long) = (bytes, file, inr (long.0, long.1))

-- of a settled run
pub told_all : {E : Type 0} (says : E → Answer → Type 0) (held : Option Files) (d : Dialogue E) (old new : Option (List ℕ)) (result : Status) (answer : Answer) (selected : List ℕ) (taken : ℕ)
    → LeadsTo says held None d answer selected taken → answer.status ≡ result → Appends old new answer.text → AnswersAll says held d old new result
told_all says None d old new result answer selected taken leads same appends = tt
told_all says (Some files) d old new result answer selected taken leads same appends =
    record { answer = answer; over = leads_told says files None d answer selected taken leads.led; status_is = same; written = appends }

-- of a run that failed to write
pub told_front : {E : Type 0} (says : E → Answer → Type 0) (held : Option Files) (d : Dialogue E) (old new : Option (List ℕ)) (answer : Answer) (selected : List ℕ) (taken : ℕ)
    → LeadsTo says held None d answer selected taken → AppendsFront old new answer.text → AnswersFront says held d old new
told_front says None d old new answer selected taken leads front = tt
told_front says (Some files) d old new answer selected taken leads front = (answer, leads_told says files None d answer selected taken leads.led, front)

pub settled_done : (s : Status) → s ≡ status.Done → IsComplete s
settled_done s is = record { read = λ e. cc; written = λ e. cc; memory = λ e. cc }

pub settled_refused : (s : Status) → s ≡ status.Refused → IsComplete s
settled_refused s is = record { read = λ e. cc; written = λ e. cc; memory = λ e. cc }

pub settled_bad : (s : Status) → s ≡ status.BadFile → IsComplete s
settled_bad s is = record { read = λ e. cc; written = λ e. cc; memory = λ e. cc }

-- the answer of several commands' dialogue is that of the one command
pub answered_as : {A B : Type 0} (says : A → Answer → Type 0) (others : B → Answer → Type 0) (f : A → B) (files : Files) (d : Dialogue A) (old new : Option (List ℕ)) (result : Status)
    → ((v : A) (answer : Answer) → others (f v) answer → says v answer) → Answered others files (and_then d (λ v. Ends (f v))) old new result → Answered says files d old new result
answered_as says others f files d old new result same a =
    record { answer = a.answer; over = over_as says others f files d a.answer same a.over; status_is = a.status_is; written = a.written }

pub settled_not_a_run : (s : Status) → s ≡ status.NotARun → IsComplete s
settled_not_a_run s is = record { read = λ e. cc; written = λ e. cc; memory = λ e. cc }

-- how a run of a command that reads no file ends, whose dialogue ends at once with what is one of several commands' ends
module _ {A B : Type 0} (says : A → Answer → Type 0) (others : B → Answer → Type 0) (f : A → B) (same : (v : A) (answer : Answer) → others (f v) answer → says v answer)
    (held : Option Files) (end : A) (old new : Option (List ℕ)) (selected : List ℕ) (taken : ℕ) where
  leads_at_once : (answer : Answer) → LeadsTo others held None (Ends (f end)) answer selected taken → LeadsTo says held None (Ends end) answer selected taken
  leads_at_once answer leads = record { led = (same end answer leads.led.0, leads.led.1) }

  pub ends_at_once : (result : Status) → EndsAs others held (Ends (f end)) old new selected taken result → EndsAs says held (Ends end) old new selected taken result
  ends_at_once status.ReadFault ends = ends
  ends_at_once status.Memory ends = ends
  ends_at_once status.WriteFault (answer, leads, front) = (answer, leads_at_once answer leads, front)
  ends_at_once status.Done (answer, leads, is, written) = (answer, leads_at_once answer leads, is, written)
  ends_at_once status.Refused (answer, leads, is, written) = (answer, leads_at_once answer leads, is, written)
  ends_at_once status.Usage (answer, leads, is, written) = (answer, leads_at_once answer leads, is, written)
  ends_at_once status.BadFile (answer, leads, is, written) = (answer, leads_at_once answer leads, is, written)
  ends_at_once status.TooFewTags (answer, leads, is, written) = (answer, leads_at_once answer leads, is, written)
  ends_at_once status.TooSmall (answer, leads, is, written) = (answer, leads_at_once answer leads, is, written)
  ends_at_once status.NotARun (answer, leads, is, written) = (answer, leads_at_once answer leads, is, written)
