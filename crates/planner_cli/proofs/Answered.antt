-- A run writes the answer of the dialogue of its words, or a front of it.
use Rattle.std.proofs.Common.{◌≡◌, ◌≢◌, ◌⊎◌, ℕ, List, None, Some, refl, sym, subst, inl, inr}
use Rattle.std.specs.declared.option.Option.{Option}
use Rattle.std.specs.Io.KnownBytes.{Appends}
use Rattle.file_access.specs.Outside.{Files, AppendsFront}
use Rattle.command_base.specs.declared.status.Status.{Status}
use Rattle.command_base.specs.declared.status.Status.TheVariants as status
use Rattle.command_base.specs.Answers.{Answer}
use Rattle.command_base.specs.Dialogues.{LeadsTo, Lacks}
use Rattle.command_base.specs.Runs.{IsComplete, EndsAs, Answered, AnswersAll, AnswersFront}
use Rattle.command_base.proofs.RunLaws.{told_all, told_front}
use Rattle.planner_cli.specs.Commands.{Asked, AsksToServe, asked_command, dialogue, dialogue_of, dialogue_on, IsSaid, usage_line}

-- the dialogue of a command is that of the words that ask for it
pub leads_asked : (held : Option Files) (words : List (List ℕ)) (a : Asked) (answer : Answer) (selected : List ℕ) (taken : ℕ)
    → Some a ≡ asked_command words → LeadsTo IsSaid held None (dialogue_of a) answer selected taken → LeadsTo IsSaid held None (dialogue words) answer selected taken
unfolding dialogue
leads_asked held words a answer selected taken asks leads = subst (λ b. LeadsTo IsSaid held None (dialogue_on b) answer selected taken) asks leads

pub lacks_asked : (held : Option Files) (words : List (List ℕ)) (a : Asked) → Some a ≡ asked_command words → Lacks held (dialogue_of a) → Lacks held (dialogue words)
unfolding dialogue
lacks_asked held words a asks lacks = subst (λ b. Lacks held (dialogue_on b)) asks lacks

-- words that are none of the listed forms lead to the usage line
pub leads_usage : (held : Option Files) (words : List (List ℕ)) (selected : List ℕ) (taken : ℕ)
    → None ≡ asked_command words → LeadsTo IsSaid held None (dialogue words) (record { status = status.Usage; text = usage_line }) selected taken
unfolding dialogue
leads_usage held words selected taken asks =
    subst (λ b. LeadsTo IsSaid held None (dialogue_on b) (record { status = status.Usage; text = usage_line }) selected taken) asks (record { led = (refl, tt {0}) })

-- the answer was written, or writing failed behind a front of it
module _ (held : Option Files) (words : List (List ℕ)) (old new : Option (List ℕ)) (selected : List ℕ) (taken : ℕ) (answer : Answer) (leads : LeadsTo IsSaid held None (dialogue words) answer selected taken)
    (read : answer.status ≢ status.ReadFault) (memory : answer.status ≢ status.Memory) where
  pub wrote_ends : (result : Status) → (result ≡ status.WriteFault) ⊎ ((result ≡ answer.status) × Appends old new answer.text) → (result ≡ status.WriteFault → AppendsFront old new answer.text)
      → EndsAs IsSaid held (dialogue words) old new selected taken result
  wrote_ends status.ReadFault (inl fault) front = absurd (cc)
  wrote_ends status.ReadFault (inr (same, appends)) front = absurd (read (sym same))
  wrote_ends status.Memory (inl fault) front = absurd (cc)
  wrote_ends status.Memory (inr (same, appends)) front = absurd (memory (sym same))
  wrote_ends status.WriteFault done front = (answer, leads, front refl)
  wrote_ends status.Done (inl fault) front = absurd (cc)
  wrote_ends status.Done (inr (same, appends)) front = (answer, leads, sym same, appends)
  wrote_ends status.Refused (inl fault) front = absurd (cc)
  wrote_ends status.Refused (inr (same, appends)) front = (answer, leads, sym same, appends)
  wrote_ends status.Usage (inl fault) front = absurd (cc)
  wrote_ends status.Usage (inr (same, appends)) front = (answer, leads, sym same, appends)
  wrote_ends status.BadFile (inl fault) front = absurd (cc)
  wrote_ends status.BadFile (inr (same, appends)) front = (answer, leads, sym same, appends)
  wrote_ends status.TooFewTags (inl fault) front = absurd (cc)
  wrote_ends status.TooFewTags (inr (same, appends)) front = (answer, leads, sym same, appends)
  wrote_ends status.TooSmall (inl fault) front = absurd (cc)
  wrote_ends status.TooSmall (inr (same, appends)) front = (answer, leads, sym same, appends)
  wrote_ends status.NotARun (inl fault) front = absurd (cc)
  wrote_ends status.NotARun (inr (same, appends)) front = (answer, leads, sym same, appends)

  pub wrote_all : (result : Status) → (result ≡ status.WriteFault) ⊎ ((result ≡ answer.status) × Appends old new answer.text) → IsComplete result → AnswersAll IsSaid held (dialogue words) old new result
  wrote_all result (inl fault) settled = absurd (settled.written fault)
  wrote_all result (inr (same, appends)) settled = told_all IsSaid held (dialogue words) old new result answer selected taken leads (sym same) appends

  pub wrote_front : AppendsFront old new answer.text → AnswersFront IsSaid held (dialogue words) old new
  wrote_front front = told_front IsSaid held (dialogue words) old new answer selected taken leads front

-- a settled run over a source that tells has the answer of the command that its words ask for
pub answered : (held : Option Files) (words : List (List ℕ)) (old new : Option (List ℕ)) (result : Status) (files : Files) (a : Asked)
    → AnswersAll IsSaid held (dialogue words) old new result → held ≡ Some files → asked_command words ≡ Some a → Answered IsSaid files (dialogue_of a) old new result
unfolding dialogue
answered held words old new result files a all tells asks =
    let there : Answered IsSaid files (dialogue words) old new result = subst (λ h. AnswersAll IsSaid h (dialogue words) old new result) tells all in
    subst (λ b. Answered IsSaid files (dialogue_on b) old new result) asks there

-- words that ask for another command don't ask to serve
pub unserved : (words : List (List ℕ)) (a : Asked) → asked_command words ≡ Some a → ¬ AsksToServe (Some a) → ¬ AsksToServe (asked_command words)
unserved words a asks other serves = other (subst AsksToServe asks serves)

-- a run ends as the dialogue of the command that its words ask for
pub ended : (held : Option Files) (words : List (List ℕ)) (old new : Option (List ℕ)) (selected : List ℕ) (taken : ℕ) (result : Status) (a : Asked)
    → EndsAs IsSaid held (dialogue words) old new selected taken result → asked_command words ≡ Some a → EndsAs IsSaid held (dialogue_of a) old new selected taken result
unfolding dialogue
ended held words old new selected taken result a ends asks = subst (λ b. EndsAs IsSaid held (dialogue_on b) old new selected taken result) asks ends
