-- What a run of `import` promises over the files of a source that tells.
use Rattle.std.specs.Prelude.{◌≡◌, ◌↔◌, ℕ, List, Option}
use Rattle.file_access.specs.Outside.{Files}
use Rattle.path_walk.specs.UserConfigs.{IsUserConfig}
use Rattle.command_base.specs.declared.status.Status.{Status}
use Rattle.command_base.specs.declared.status.Status.TheVariants as status
use Rattle.command_base.specs.Runs.{IsComplete}
use Rattle.import_command.specs.Names.{ImportNames}
use Rattle.import_command.specs.Imported.{ImportMeaning, FilesMeanImport, WritesConfig}

-- the files and their names, what was written before and after the run, and how it ended
pub record ImportPromise (files : Files) (names : ImportNames) (old new : Option (List ℕ)) (result : Status) : Type 0 where
  -- Done comes exactly where both files are read: the network, and flow statistics whose lines and entries pass every check.
  pub done : IsComplete result → ((result ≡ status.Done) ↔ ((m : ImportMeaning) × FilesMeanImport files names m))
  -- What is written then is read as the configuration of the entries.
  pub same : (m : ImportMeaning) → FilesMeanImport files names m → result ≡ status.Done → WritesConfig m.net m.tables old new
  -- It is one that a user may write, whatever the switches told.
  pub user : (m : ImportMeaning) → FilesMeanImport files names m → IsUserConfig m.net m.tables
