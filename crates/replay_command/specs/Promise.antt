-- What a run of `replay` promises over the files of a source that tells.
use Rattle.std.specs.Prelude.{◌≡◌, ◌↔◌, ℕ, List, Option}
use Rattle.std.specs.Io.KnownBytes.{Appends}
use Rattle.file_access.specs.Outside.{Files}
use Rattle.schedule_replay.specs.Traces.{traces_text}
use Rattle.command_base.specs.declared.status.Status.{Status}
use Rattle.command_base.specs.declared.status.Status.TheVariants as status
use Rattle.command_base.specs.Runs.{IsComplete}
use Rattle.replay_command.specs.Names.{ReplayNames}
use Rattle.replay_command.specs.Replayed.{ReplayMeaning, FilesMeanReplay, FilesAreARun, FilesAreNoRun, NamesFirstLine, end_state}

-- the files and their names, what was written before and after the run, and how it ended
pub record ReplayPromise (files : Files) (names : ReplayNames) (old new : Option (List ℕ)) (result : Status) : Type 0 where
  -- Done comes exactly where the four files mean a network, a configuration, a plan and a schedule whose events are a run of the plan's
  -- rounds from the old tables.
  pub done : IsComplete result → ((result ≡ status.Done) ↔ FilesAreARun files names)
  -- Then the traces of the last state of this run were written.
  pub traces : (m : ReplayMeaning) → FilesMeanReplay files names m → result ≡ status.Done → Appends old new (traces_text m.net (end_state m))
  -- NotARun comes exactly where all files are read and some event isn't enabled; the line names that of the first one.
  pub not_a_run : IsComplete result → ((result ≡ status.NotARun) ↔ FilesAreNoRun files names)
  pub first : (m : ReplayMeaning) → FilesMeanReplay files names m → result ≡ status.NotARun → NamesFirstLine m old new
