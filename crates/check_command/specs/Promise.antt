-- What a run of `check` promises over the files of a source that tells.
use Rattle.std.specs.Prelude.{◌≡◌, ◌↔◌, ℕ, List, Option}
use Rattle.file_access.specs.Outside.{Files}
use Rattle.certificates.specs.Certified.{is_two_phase}
use Rattle.certificates.specs.Consistent.{IsConsistent}
use Rattle.command_base.specs.declared.status.Status.{Status}
use Rattle.command_base.specs.declared.status.Status.TheVariants as status
use Rattle.command_base.specs.Runs.{IsComplete}
use Rattle.check_base.specs.Names.{CheckNames}
use Rattle.check_base.specs.Checks.{CheckMeaning, FilesMeanPlan, FilesAreCertified, RefusesUncertified}

-- the files and their names, what was written before and after the run, and how it ended
pub record CheckPromise (files : Files) (names : CheckNames) (old new : Option (List ℕ)) (result : Status) : Type 0 where
  -- Done comes exactly where the five files mean a network, two configurations, a policy and a certified plan of this update, with at
  -- most 8192 classes.
  pub done : IsComplete result → ((result ≡ status.Done) ↔ FilesAreCertified files names)
  -- The headline (docs/THEOREMS.md). Then the update is consistent: in every state of every run, with the changes of each round in any
  -- order between the hops of packets, each packet's trace meets the demands, and under two phases it is the old or the new path.
  pub keeps : (m : CheckMeaning) → FilesMeanPlan files names m → result ≡ status.Done → IsConsistent m.update m.plan.rounds (is_two_phase m.plan.evidence)
  -- Refused comes exactly where the plan isn't certified, and the line names the first reason, in the order of docs/FORMATS.md.
  pub refusals : RefusesUncertified files names old new result
