-- What a run of `plan` promises over the files of a source that tells.
use Rattle.std.specs.Prelude.{◌≡◌, ◌↔◌, ◌≤◌, ℕ, List, length, Option, Some}
use Rattle.std.specs.Io.KnownBytes.{Appends}
use Rattle.file_access.specs.Outside.{Files}
use Rattle.certificates.specs.declared.Plan.{Plan}
use Rattle.round_planner.specs.Updates.{KeepsConsistent}
use Rattle.tag_allocator.specs.Tags.{available_tags}
use Rattle.command_base.specs.declared.status.Status.{Status}
use Rattle.command_base.specs.declared.status.Status.TheVariants as status
use Rattle.command_base.specs.declared.kinds.FileKind.TheVariants as kind
use Rattle.command_base.specs.Kinds.{limit_of}
use Rattle.command_base.specs.Names.{UpdateNames}
use Rattle.certificates.specs.Updates.{Update}
use Rattle.command_base.specs.Updates.{FilesMeanUpdate, WritesPlan}
use Rattle.command_base.specs.Runs.{IsComplete}
use Rattle.check_base.specs.Checks.{FilesAreCertified}
use Rattle.plan_command.specs.NoPlanLines as lines
use Rattle.plan_command.specs.NewPlans.{FilesHavePlan, FilesLackTags, FilesLackRoom, FilesMeanTrees, WritesPlanOf, WritesOrderedPlan, RefusesBadEnds, HoldBeside}
use Rattle.plan_command.specs.Planned.{IsNewPlan, AreSearched}

-- the files and their names, what was written before and after the run, and how it ended
pub record PlanPromise (files : Files) (names : UpdateNames) (old new : Option (List ℕ)) (result : Status) : Type 0 where
  -- Done comes exactly where the four files mean a network, two configurations and a policy with at most 8192 classes, both
  -- configurations have good paths for every class, and the search ended ordered, or it ended stuck and tags and table entries suffice
  -- for two phases.
  pub done : IsComplete result → ((result ≡ status.Done) ↔ FilesHavePlan files names)
  -- Then the text of the plan was written: that of the search, or that of two phases with the rounds that the search tried. Reading it
  -- gives this plan.
  pub writes : (u : Update) → FilesMeanUpdate files names u → result ≡ status.Done → WritesPlanOf IsNewPlan u old new
  -- This plan is certified, so the update is consistent, as the headline has it (docs/THEOREMS.md).
  pub keeps : (before : List ℕ) (u : Update) (p : Plan) → old ≡ Some before → result ≡ status.Done → FilesMeanUpdate files names u → WritesPlan u.net p old new → KeepsConsistent u p
  -- Where the text has no more bytes than a plan may have, which are 512 MiB, `check` over the same files and this text says Done.
  pub checked : (others : Files) (before plan text : List ℕ) → old ≡ Some before → result ≡ status.Done → Appends old new text
      → length text ≤ limit_of kind.Plan → HoldBeside files others names plan text → FilesAreCertified others (record { update = names; plan = plan })
  -- On an update of destination trees (docs/THEOREMS.md) with at most 8192 classes it says Done and writes an ordered plan, with as many
  -- rounds as rules differ.
  pub tree : IsComplete result → (u : Update) → FilesMeanTrees files names u → (result ≡ status.Done) × WritesOrderedPlan u old new
  -- Refused comes exactly where a configuration has no good path for some class, and the line names the first one, the old configuration
  -- before the new.
  pub refusals : RefusesBadEnds files names old new result
  -- Too few tags, and a switch that is too small, come exactly where the search ended stuck and these don't suffice, tags before tables;
  -- the lines have the numbers and the rounds of the search.
  pub too_few : IsComplete result → ((result ≡ status.TooFewTags) ↔ FilesLackTags AreSearched files names)
  pub too_few_lines : IsComplete result → (lack : FilesLackTags AreSearched files names)
      → Appends old new (lines.too_few_lines lack.update.net (length lack.update.net.vlans) (length (available_tags lack.update.net)) lack.tried)
  pub too_small : IsComplete result → ((result ≡ status.TooSmall) ↔ FilesLackRoom AreSearched files names)
  pub too_small_lines : IsComplete result → (lack : FilesLackRoom AreSearched files names)
      → Appends old new (lines.too_small_lines lack.update.net lack.switch lack.need lack.capacity lack.tried)
