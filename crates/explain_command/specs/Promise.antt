-- What a run of `explain` promises over the files of a source that tells.
use Rattle.std.specs.Prelude.{◌≡◌, ◌⊎◌, ◌↔◌, ℕ, false, List, Option, Some}
use Rattle.std.specs.Io.KnownBytes.{Appends}
use Rattle.file_access.specs.Outside.{Files}
use Rattle.certificates.specs.Consistent.{IsConsistent}
use Rattle.command_base.specs.declared.status.Status.{Status}
use Rattle.command_base.specs.declared.status.Status.TheVariants as status
use Rattle.command_base.specs.JudgedFiles.{FilesAreGood, RefusalPromise}
use Rattle.command_base.specs.Runs.{IsComplete}
use Rattle.check_base.specs.Names.{CheckNames}
use Rattle.check_base.specs.Checks.{CheckMeaning, FilesMeanPlan, check_count, task_in}
use Rattle.explain_command.specs.Explained.{CanBeExplained, IsCauseLine, SomethingBreaks, NothingBreaks, WritesBreakingRun, WritesNothingBreaks, nothing_line}

-- the files and their names, what was written before and after the run, and how it ended
pub record ExplainPromise (files : Files) (names : CheckNames) (old new : Option (List ℕ)) (result : Status) : Type 0 where
  -- Done comes exactly where the five files mean an update and an ordered plan of it, with at most 8192 classes, both configurations have
  -- good paths for each class, and every round is good and every mixture of it clear.
  pub done : IsComplete result → ((result ≡ status.Done) ↔ FilesAreGood (FilesMeanPlan files names) check_count CanBeExplained)
  -- Then either the schedule of a run was written, in the first round in which some mixed walk of a class breaks its duties, for the
  -- first such class (`WritesBreakingRun`). Read as a schedule the text means these events, which are a run from the old tables with one
  -- packet, whose trace isn't good for its duties after the last event, and was before. Or the line was written that every mixed walk is
  -- good, and no class breaks in any round.
  pub run : (m : CheckMeaning) → FilesMeanPlan files names m → result ≡ status.Done → WritesBreakingRun m old new ⊎ WritesNothingBreaks m old new
  -- The schedule was written exactly where some class has a mixed walk that breaks its duties in some round, and the line exactly where
  -- none has.
  pub shown : (m : CheckMeaning) → FilesMeanPlan files names m → result ≡ status.Done → (WritesBreakingRun m old new ↔ SomethingBreaks (task_in m))
  pub nothing : (m : CheckMeaning) → FilesMeanPlan files names m → result ≡ status.Done → (WritesNothingBreaks m old new ↔ NothingBreaks (task_in m))
  -- The line is written for no other cause.
  pub nothing_only : (m : CheckMeaning) → FilesMeanPlan files names m → (before : List ℕ) → old ≡ Some before → result ≡ status.Done → Appends old new nothing_line → NothingBreaks (task_in m)
  -- Where it is written the rounds are consistent: in every state of every run of them each packet meets the demands.
  pub consistent : (m : CheckMeaning) → FilesMeanPlan files names m → (before : List ℕ) → old ≡ Some before → result ≡ status.Done → Appends old new nothing_line → IsConsistent m.update m.plan.rounds false
  -- Refused comes exactly where the files are read and one of these fails, and the line names the first: a configuration, with the line
  -- of `check`; the first bad change or unclear switch, in the words of `check`; or that the plan is one of two phases.
  pub refusals : RefusalPromise (FilesMeanPlan files names) check_count CanBeExplained IsCauseLine old new result
