-- What a run of `paths` promises over the files of a source that tells.
use Rattle.std.specs.Prelude.{◌≡◌, ◌⊎◌, ◌↔◌, ℕ, ◌<◌, false, List, Option, Some, slice_get}
use Rattle.std.specs.Io.KnownBytes.{Appends}
use Rattle.file_access.specs.Outside.{Files}
use Rattle.config_check.specs.declared.Breaks as breaking
use Rattle.config_check.specs.Broken.{IsFirstBreak}
use Rattle.command_base.specs.declared.status.Status.{Status}
use Rattle.command_base.specs.declared.status.Status.TheVariants as status
use Rattle.command_base.specs.JudgedFiles.{RefusalPromise}
use Rattle.command_base.specs.Runs.{IsComplete}
use Rattle.config_command.specs.Names.{ConfigNames}
use Rattle.config_command.specs.Configs.{ConfigMeaning, FilesMean, Holds, FilesHold, KeepsPacketsGood, config_count}
use Rattle.config_command.specs.Promise.{ConfigPromise}
use Rattle.config_command.specs.Verdicts.{classes_under}
use Rattle.paths_command.specs.declared.marks.Mark.TheVariants.{Breaks}
use Rattle.paths_command.specs.Listed.{IsPathsText}
use Rattle.paths_command.specs.Rows.{ClassRow, AreRows}
use Rattle.paths_command.specs.Addresses.{SpeakForAll}
use Rattle.paths_command.specs.Lines.{paths_text, is_break}

-- the listing that was written: of each class its path and the verdict on it, which are those of each address of the class, and the counts
pub record WritesPaths (m : ConfigMeaning) (old new : Option (List ℕ)) : Type 0 where
  pub rows : List ClassRow
  pub are : AreRows m rows
  pub speak : SpeakForAll m rows
  pub written : Appends old new (paths_text m.net rows)

-- the first row that is neither good nor free is that of the break, with its word and its switch
pub record IsFirstBreakRow (rows : List ClassRow) (b : breaking.Breaks) : Type 0 where
  pub row : ClassRow
  pub at : slice_get rows b.class ≡ Some row
  pub mark_is : row.mark ≡ Breaks b.how
  pub earlier : (n : ℕ) (other : ClassRow) → n < b.class → slice_get rows n ≡ Some other
      → is_break other.mark ≡ false

-- the listing that was written, and in it the row of the break
pub record ListsFirstBreak (m : ConfigMeaning) (b : breaking.Breaks) (old new : Option (List ℕ))
    : Type 0 where
  pub lists : WritesPaths m old new
  pub first : IsFirstBreakRow lists.rows b

-- one run is Done exactly where the other is, and Refused exactly where the other is
pub record EndAlike (one other : Status) : Type 0 where
  pub done : (one ≡ status.Done) ↔ (other ≡ status.Done)
  pub refused : (one ≡ status.Refused) ↔ (other ≡ status.Refused)

-- the files and their names, what was written before and after the run, and how it ended
pub record PathsPromise (files : Files) (names : ConfigNames) (old new : Option (List ℕ))
    (result : Status) : Type 0 where
  -- Done comes exactly where the files mean a network, a configuration and a policy with at most 8192 classes, each of which has a good
  -- path.
  pub done : IsComplete result → ((result ≡ status.Done) ↔ FilesHold files names)
  -- Then every packet of every run over the configuration meets the demands.
  pub keeps : (m : ConfigMeaning) → FilesMean files names m → result ≡ status.Done → KeepsPacketsGood m.net m.tables m.demands
  -- Refused comes exactly where some class has no good path, with the listing.
  pub refusals : RefusalPromise (FilesMean files names) config_count Holds IsPathsText old new result
  -- In both cases a line for each class is written, in their order: its path, how that ends, and the verdict on it alone, which is `good`
  -- or `free` by whether some demand covers the class; and last the counts of these lines (`WritesPaths`). Each entry and each address is
  -- of a class that has a line, whose path and verdict are those of every address of the class (`SpeakForAll`).
  pub lists : (m : ConfigMeaning) → FilesMean files names m
      → (result ≡ status.Done) ⊎ (result ≡ status.Refused) → WritesPaths m old new
  -- Where it is refused, the first line that is neither `good` nor `free` is that of the class that `config` names, with its word and its
  -- switch.
  pub first : (m : ConfigMeaning) (b : breaking.Breaks) → FilesMean files names m
      → result ≡ status.Refused
      → IsFirstBreak m.net m.tables m.demands (classes_under m.net m.tables m.demands) b
      → ListsFirstBreak m b old new
  -- So it is Done, and Refused, exactly where a run of `config` over the same words is.
  pub as_config : IsComplete result → (before after : Option (List ℕ)) (other : Status)
      → IsComplete other → ConfigPromise files names before after other → EndAlike result other
