-- What a run of `certify` promises over the files of a source that tells.
use Rattle.std.specs.Prelude.{◌≡◌, ◌↔◌, ◌≤◌, ℕ, List, length, Option, Some}
use Rattle.std.specs.Io.KnownBytes.{Appends}
use Rattle.file_access.specs.Outside.{Files}
use Rattle.command_base.specs.declared.status.Status.{Status}
use Rattle.command_base.specs.declared.status.Status.TheVariants as status
use Rattle.command_base.specs.declared.kinds.FileKind.TheVariants as kind
use Rattle.command_base.specs.Kinds.{limit_of}
use Rattle.command_base.specs.JudgedFiles.{FilesAreGood, RefusalPromise}
use Rattle.command_base.specs.Runs.{IsComplete}
use Rattle.check_base.specs.Names.{CheckNames}
use Rattle.check_base.specs.Checks.{CheckMeaning, FilesMeanPlan, FilesAreCertified, check_count}
use Rattle.certify_command.specs.Answers.{IsCertifiable, IsCauseLine, HoldBeside, WritesCertifiedText}

-- the files and their names, what was written before and after the run, and how it ended
pub record CertifyPromise (files : Files) (names : CheckNames) (old new : Option (List ℕ)) (result : Status) : Type 0 where
  -- Done comes exactly where the five files mean an update and an ordered plan of it, with at most 8192 classes, whose rounds some
  -- evidence certifies, be it that of the plan or not.
  pub done : IsComplete result → ((result ≡ status.Done) ↔ FilesAreGood (FilesMeanPlan files names) check_count IsCertifiable)
  -- Then the text of a plan with exactly these rounds was written, with the evidence that the search makes for them. It is read as that
  -- plan, which is certified, so the update is consistent.
  pub plan : (m : CheckMeaning) → FilesMeanPlan files names m → result ≡ status.Done → WritesCertifiedText m old new
  -- Where the text has no more bytes than a plan may have, `check` over the same update and this text for its plan says Done.
  pub checked : (others : Files) (before plan text : List ℕ) → old ≡ Some before → result ≡ status.Done → Appends old new text
      → length text ≤ limit_of kind.Plan → HoldBeside files others names.update plan text → FilesAreCertified others (record { update = names.update; plan = plan })
  -- Refused comes exactly where no evidence certifies the rounds or the plan is one of two phases, and the line names the first cause.
  pub refusals : RefusalPromise (FilesMeanPlan files names) check_count IsCertifiable IsCauseLine old new result
