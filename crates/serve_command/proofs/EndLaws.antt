-- How a run ends that says something of its files.
use Rattle.std.proofs.Common.{◌≡◌, ◌≢◌, ℕ, List, None, inl, inr, refl, sym, subst}
use Rattle.std.specs.Prelude.{Option, ◌⊎◌}
use Rattle.std.specs.Io.KnownBytes.{Appends}
use Rattle.file_access.specs.Outside.{Files, AppendsFront}
use Rattle.command_base.specs.declared.status.Status.{Status}
use Rattle.command_base.specs.declared.status.Status.TheVariants as status
use Rattle.command_base.specs.Answers.{Answer}
use Rattle.command_base.specs.Dialogues.{Dialogue, FileRead, Gives, LeadsTo, IsWhole}
use Rattle.command_base.specs.Runs.{EndsAs}
use Rattle.command_base.proofs.DialogueLaws.{leads_whole}
use Rattle.check_base.specs.Checks.{CheckMeaning}
use Rattle.serve_command.specs.Serving.{SaysRefusal, EndsRefused}
use Rattle.serve_command.specs.Stops.{EndsServing}

wrote : (old new : Option (List ℕ)) (answer : Answer) (result : Status) → result ≢ status.WriteFault → (result ≡ status.WriteFault) ⊎ ((result ≡ answer.status) × Appends old new answer.text) → (answer.status ≡ result) × Appends old new answer.text
wrote old new answer result other (inl is) = absurd (other is)
wrote old new answer result other (inr w) = (sym w.0, w.1)

-- an answer was written
pub ends_wrote : (held : Option Files) (d : Dialogue CheckMeaning) (old new : Option (List ℕ)) (selected : List ℕ) (taken : ℕ) (answer : Answer) (result : Status)
    → LeadsTo SaysRefusal held None d answer selected taken → answer.status ≢ status.ReadFault → answer.status ≢ status.Memory → (result ≡ status.WriteFault) ⊎ ((result ≡ answer.status) × Appends old new answer.text)
    → (result ≡ status.WriteFault → AppendsFront old new answer.text) → EndsAs SaysRefusal held d old new selected taken result
ends_wrote held d old new selected taken answer status.Done leads nr nm done front = let w = wrote old new answer status.Done (λ e. cc) done in (answer, leads, w.0, w.1)
ends_wrote held d old new selected taken answer status.Refused leads nr nm done front = let w = wrote old new answer status.Refused (λ e. cc) done in (answer, leads, w.0, w.1)
ends_wrote held d old new selected taken answer status.Usage leads nr nm done front = let w = wrote old new answer status.Usage (λ e. cc) done in (answer, leads, w.0, w.1)
ends_wrote held d old new selected taken answer status.BadFile leads nr nm done front = let w = wrote old new answer status.BadFile (λ e. cc) done in (answer, leads, w.0, w.1)
ends_wrote held d old new selected taken answer status.TooFewTags leads nr nm done front = let w = wrote old new answer status.TooFewTags (λ e. cc) done in (answer, leads, w.0, w.1)
ends_wrote held d old new selected taken answer status.TooSmall leads nr nm done front = let w = wrote old new answer status.TooSmall (λ e. cc) done in (answer, leads, w.0, w.1)
ends_wrote held d old new selected taken answer status.NotARun leads nr nm done front = let w = wrote old new answer status.NotARun (λ e. cc) done in (answer, leads, w.0, w.1)
ends_wrote held d old new selected taken answer status.WriteFault leads nr nm done front = (answer, leads, front refl)
ends_wrote held d old new selected taken answer status.ReadFault leads nr nm done front = absurd (nr (wrote old new answer status.ReadFault (λ e. cc) done).0)
ends_wrote held d old new selected taken answer status.Memory leads nr nm done front = absurd (nm (wrote old new answer status.Memory (λ e. cc) done).0)

-- a refusal was written behind the files that were read
pub ends_refused : (held : Option Files) (d : Dialogue CheckMeaning) (m : CheckMeaning) (last : Option FileRead) (old new : Option (List ℕ)) (selected : List ℕ) (taken : ℕ) (result : Status)
    → Gives held None d m last → IsWhole last selected taken → EndsRefused m old new result → EndsAs SaysRefusal held d old new selected taken result
ends_refused held d m last old new selected taken status.ReadFault gives whole e = absurd e
ends_refused held d m last old new selected taken status.Memory gives whole e = e
ends_refused held d m last old new selected taken status.WriteFault gives whole (answer, says, front) = (answer, leads_whole gives says whole, front)
ends_refused held d m last old new selected taken status.Done gives whole (answer, says, is, all) = (answer, leads_whole gives says whole, is, all)
ends_refused held d m last old new selected taken status.Refused gives whole (answer, says, is, all) = (answer, leads_whole gives says whole, is, all)
ends_refused held d m last old new selected taken status.Usage gives whole (answer, says, is, all) = (answer, leads_whole gives says whole, is, all)
ends_refused held d m last old new selected taken status.BadFile gives whole (answer, says, is, all) = (answer, leads_whole gives says whole, is, all)
ends_refused held d m last old new selected taken status.TooFewTags gives whole (answer, says, is, all) = (answer, leads_whole gives says whole, is, all)
ends_refused held d m last old new selected taken status.TooSmall gives whole (answer, says, is, all) = (answer, leads_whole gives says whole, is, all)
ends_refused held d m last old new selected taken status.NotARun gives whole (answer, says, is, all) = (answer, leads_whole gives says whole, is, all)
