-- What a run of `tables` promises over the files of a source that tells.
use Rattle.std.specs.Prelude.{◌≡◌, ◌↔◌, ℕ, List, Option}
use Rattle.std.specs.Io.KnownBytes.{Appends}
use Rattle.file_access.specs.Outside.{Files}
use Rattle.command_base.specs.declared.status.Status.{Status}
use Rattle.command_base.specs.declared.status.Status.TheVariants as status
use Rattle.command_base.specs.Runs.{IsComplete}
use Rattle.replay_command.specs.Names.{ReplayNames}
use Rattle.replay_command.specs.Replayed.{ReplayMeaning, FilesMeanReplay, FilesAreARun, FilesAreNoRun, NamesFirstLine, end_state}
use Rattle.tables_command.specs.Listed.{tables_of, IsReadAsLast, tables_of_run}
use Rattle.tables_command.specs.Tabled.{TablesMeaning, FilesMeanTables, FilesAreACourse, FilesAreNoCourse, NamesFirstStep}

-- what holds where the files mean what they mean to `replay`: the schedule turns nothing back
pub record TurnsNothing (files : Files) (names : ReplayNames) (m : ReplayMeaning) (old new : Option (List ℕ)) (result : Status) : Type 0 where
  pub done : IsComplete result → ((result ≡ status.Done) ↔ FilesAreARun files names)
  pub tables : result ≡ status.Done → Appends old new (tables_of_run (end_state m))
  pub not_a_run : IsComplete result → ((result ≡ status.NotARun) ↔ FilesAreNoRun files names)
  pub first : result ≡ status.NotARun → NamesFirstLine m old new

-- the text that was written means the tables of the last state and its pending changes
pub record WritesTables (m : TablesMeaning) (old new : Option (List ℕ)) : Type 0 where
  pub text : List ℕ
  pub read_back : IsReadAsLast m text
  pub written : Appends old new text

-- the files and their names, what was written before and after the run, and how it ended
pub record TablesPromise (files : Files) (names : ReplayNames) (old new : Option (List ℕ)) (result : Status) : Type 0 where
  -- Done comes exactly where the four files are within their limits and mean a network, a configuration, a plan and a schedule by which the
  -- plan's rounds can be carried out and turned back from the old tables, step by step.
  pub done : IsComplete result → ((result ≡ status.Done) ↔ FilesAreACourse files names)
  -- Then the rules in all tables of the last state were written, by switch and then in the order of its table, and the changes that a
  -- switch may have made besides: of a running round that is being undone the inverses of those in force, and of each running round the
  -- changes that aren't in force and weren't taken back since it was begun.
  pub tables : (m : TablesMeaning) → FilesMeanTables files names m → result ≡ status.Done → Appends old new (tables_of m)
  -- The text is JSON, and the words of those who read plans give from it each table of the last state, with its rules in their order, and
  -- these changes: its member `rules` is read as the rules of a plan of format 2 are, where they are at most 2200000, and its member
  -- `pending` as a round of a plan of format 1 is (`MeansTables`).
  pub read_back : (m : TablesMeaning) → FilesMeanTables files names m → result ≡ status.Done → WritesTables m old new
  -- NotARun comes exactly where all files are read and some step isn't enabled; the line names that of the first one.
  pub not_a_run : IsComplete result → ((result ≡ status.NotARun) ↔ FilesAreNoCourse files names)
  pub first : (m : TablesMeaning) → FilesMeanTables files names m → result ≡ status.NotARun → NamesFirstStep m old new
  -- Where the schedule is one that `replay` reads, Done and NotARun come exactly where they do for `replay`, with the same lines; the tables
  -- are those of the last state of its run, and the changes exactly those of its running round that aren't made in that state.
  pub turns_nothing : (m : ReplayMeaning) → FilesMeanReplay files names m → TurnsNothing files names m old new result
