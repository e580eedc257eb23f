-- What a run of `upgrade` promises over the files of a source that tells.
use Rattle.std.specs.Prelude.{◌≡◌, ◌↔◌, ℕ, List, Option}
use Rattle.file_access.specs.Outside.{Files}
use Rattle.command_base.specs.declared.status.Status.{Status}
use Rattle.command_base.specs.declared.status.Status.TheVariants as status
use Rattle.command_base.specs.Names.{PlanNames}
use Rattle.command_base.specs.Updates.{PlanMeaning, FilesMeanOnePlan, WritesPlan}
use Rattle.command_base.specs.Runs.{IsComplete}

-- the files and their names, what was written before and after the run, and how it ended
pub record UpgradePromise (files : Files) (names : PlanNames) (old new : Option (List ℕ)) (result : Status) : Type 0 where
  -- Done comes exactly where both files are read.
  pub done : IsComplete result → ((result ≡ status.Done) ↔ ((m : PlanMeaning) × FilesMeanOnePlan files names m))
  -- What is written then means the same plan.
  pub same : (m : PlanMeaning) → FilesMeanOnePlan files names m → result ≡ status.Done → WritesPlan m.net m.plan old new
