-- What a run of `simulate` promises over the files of a source that tells.
use Rattle.std.specs.Prelude.{◌≡◌, ◌↔◌, ℕ, List, Option}
use Rattle.file_access.specs.Outside.{Files}
use Rattle.command_base.specs.declared.status.Status.{Status}
use Rattle.command_base.specs.declared.status.Status.TheVariants as status
use Rattle.command_base.specs.Runs.{IsComplete}
use Rattle.check_base.specs.Checks.{CheckMeaning, FilesMeanPlan, FilesAreCertified, RefusesUncertified}
use Rattle.simulate_command.specs.Names.{SimulateNames}
use Rattle.simulate_command.specs.Simulated.{WritesRecord}

-- the files and their names with START and COUNT, what was written before and after the run, and how it ended
pub record SimulatePromise (files : Files) (names : SimulateNames) (old new : Option (List ℕ)) (result : Status) : Type 0 where
  -- Done comes exactly where it does for `check`: the plan is certified, with at most 8192 classes.
  pub done : IsComplete result → ((result ≡ status.Done) ↔ FilesAreCertified files names.check)
  -- Then the record of a simulation was written: a run of the plan from the old tables, driven by START over COUNT packets of the
  -- classes, that is over after its events and within the budget. Read as a schedule the text means these events, and its comments are
  -- the traces at their end. So an accepted plan can be carried out.
  pub run : (m : CheckMeaning) → FilesMeanPlan files names.check m → result ≡ status.Done → WritesRecord names.start names.count m old new
  -- Refused comes exactly where the plan isn't certified, and the line names the first reason, as for `check`.
  pub refusals : RefusesUncertified files names.check old new result
