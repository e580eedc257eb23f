-- What a run of `pack` promises over the files of a source that tells.
use Rattle.std.specs.Prelude.{◌≡◌, ◌≢◌, ◌↔◌, ◌≤◌, ℕ, ◌+◌, ◌*◌, false, true, List, length, Option, Some}
use Rattle.std.specs.Io.KnownBytes.{Appends}
use Rattle.file_access.specs.Outside.{Files}
use Rattle.update_model.specs.Remaining.{remaining_changes}
use Rattle.certificates.specs.Certified.{is_two_phase}
use Rattle.certificates.specs.Updates.{Update}
use Rattle.certificates.specs.declared.Plan.{Plan}
use Rattle.law_packed_rounds.specs.Packing.{CanStand, PacksOrdered}
use Rattle.law_packed_trees.specs.Bounds.{AreBounds}
use Rattle.round_planner.specs.Updates.{update_target, update_count, bare_task, KeepsConsistent}
use Rattle.tag_allocator.specs.Tags.{available_tags}
use Rattle.two_phase.specs.Laws.{FitsTwoPhase}
use Rattle.command_base.specs.declared.status.Status.{Status}
use Rattle.command_base.specs.declared.status.Status.TheVariants as status
use Rattle.command_base.specs.declared.kinds.FileKind.TheVariants as kind
use Rattle.command_base.specs.Kinds.{limit_of}
use Rattle.command_base.specs.Updates.{FilesMeanUpdate, WritesPlan}
use Rattle.command_base.specs.JudgedFiles.{RefusalPromise}
use Rattle.command_base.specs.Runs.{IsComplete}
use Rattle.check_base.specs.Checks.{FilesAreCertified}
use Rattle.plan_command.specs.NoPlanLines as lines
use Rattle.plan_command.specs.NewPlans.{FilesHavePlan, FilesMeanTrees, HoldBeside, WritesPlanOf}
use Rattle.pack_command.specs.declared.names.PackKind.TheVariants as pack_kind
use Rattle.pack_command.specs.Chosen.{IsPackPlan, IsPackingOrdered, phased_count}
use Rattle.pack_command.specs.Names.{PackNames}
use Rattle.pack_command.specs.PackFiles.{EndsInOrder, FilesHavePackPlan, FilesPackNoTags, FilesPackNoRoom, IsPackable, IsPackRefusal, AreFull}

-- the files, their names and KIND, what was written before and after the run, and how it ended
pub record PackPromise (files : Files) (names : PackNames) (old new : Option (List ℕ)) (result : Status) : Type 0 where
  -- Done comes exactly where the four files mean an update with at most 8192 classes, both configurations have good paths for every
  -- class, and packing or the search ends ordered, or tags and table entries suffice for two phases; with KIND `ordered` only the former,
  -- with `two-phase` only the latter.
  pub done : IsComplete result → ((result ≡ status.Done) ↔ FilesHavePackPlan files names)
  -- So without KIND it comes wherever there is a plan for `plan`.
  pub wherever : names.kind ≡ pack_kind.Any → IsComplete result → FilesHavePlan files names.files → result ≡ status.Done
  -- Then the text of the chosen plan was written. Without KIND that is the packed one, or where packing ends stuck that of the search; or
  -- that of two phases by depth, where the other has more than twice as many rounds or there is no other. Reading it gives this plan.
  pub writes : (u : Update) → FilesMeanUpdate files names.files u → result ≡ status.Done → WritesPlanOf (IsPackPlan names.kind) u old new
  -- This plan is certified, so the update is consistent.
  pub keeps : (before : List ℕ) (u : Update) (p : Plan) → old ≡ Some before → result ≡ status.Done → FilesMeanUpdate files names.files u → WritesPlan u.net p old new → KeepsConsistent u p
  -- Where the text has no more bytes than a plan may have, which are 512 MiB, `check` over the same files and this text says Done.
  pub checked : (others : Files) (before plan text : List ℕ) → old ≡ Some before → result ≡ status.Done → Appends old new text
      → length text ≤ limit_of kind.Plan → HoldBeside files others names.files plan text → FilesAreCertified others (record { update = names.files; plan = plan })
  -- Where packing or the search ends ordered it has at most as many rounds as changes lead from the old to the new tables, as an ordered
  -- plan of `plan` has. With KIND `two-phase` that isn't said.
  pub never_more : names.kind ≢ pack_kind.TwoPhase → (before : List ℕ) (u : Update) (p : Plan) → old ≡ Some before → result ≡ status.Done → FilesMeanUpdate files names.files u → WritesPlan u.net p old new
      → EndsInOrder u → length p.rounds ≤ length (remaining_changes u.old u.new)
  -- Without KIND, where there are tags and room for two phases, it has at most twice as many rounds as two phases by depth: two for each
  -- depth of ingress rules, and four. With `two-phase` it has as many as they.
  pub few_rounds : names.kind ≡ pack_kind.Any → (before : List ℕ) (u : Update) (p : Plan) → old ≡ Some before → result ≡ status.Done → FilesMeanUpdate files names.files u → WritesPlan u.net p old new
      → FitsTwoPhase u.net u.old u.new → length p.rounds ≤ 2 * phased_count u
  pub phased_rounds : names.kind ≡ pack_kind.TwoPhase → (before : List ℕ) (u : Update) (p : Plan) → old ≡ Some before → result ≡ status.Done → FilesMeanUpdate files names.files u → WritesPlan u.net p old new
      → length p.rounds ≡ phased_count u
  -- With KIND `ordered` it is an ordered plan, never one of two phases; with `two-phase` always one of two phases.
  pub kind_ordered : names.kind ≡ pack_kind.Ordered → (before : List ℕ) (u : Update) (p : Plan) → old ≡ Some before → result ≡ status.Done → FilesMeanUpdate files names.files u → WritesPlan u.net p old new
      → is_two_phase p.evidence ≡ false
  pub kind_two_phase : names.kind ≡ pack_kind.TwoPhase → (before : List ℕ) (u : Update) (p : Plan) → old ≡ Some before → result ≡ status.Done → FilesMeanUpdate files names.files u → WritesPlan u.net p old new
      → is_two_phase p.evidence ≡ true
  -- Where packing ends ordered and the plan is an ordered one, its rounds are the packed ones, and each is full: no change that it
  -- leaves could have stood in it besides.
  pub full : (before : List ℕ) (u : Update) (p : Plan) → old ≡ Some before → result ≡ status.Done → FilesMeanUpdate files names.files u → WritesPlan u.net p old new
      → IsPackingOrdered u → is_two_phase p.evidence ≡ false → PacksOrdered (update_target u) u.old p.rounds × AreFull (update_target u) u.old p.rounds
  -- Where all changes from the old to the new tables can be one round, it has no more than one, but with KIND `two-phase`.
  pub one_round : names.kind ≢ pack_kind.TwoPhase → (before : List ℕ) (u : Update) (p : Plan) → old ≡ Some before → result ≡ status.Done → FilesMeanUpdate files names.files u → WritesPlan u.net p old new
      → CanStand (update_target u) u.old (remaining_changes u.old u.new) → length p.rounds ≤ 1
  -- Where packing ends ordered and the plan is an ordered one of one round, all changes from the old to the new tables can be one round.
  pub one_round_only : (before : List ℕ) (u : Update) (p : Plan) → old ≡ Some before → result ≡ status.Done → FilesMeanUpdate files names.files u → WritesPlan u.net p old new
      → IsPackingOrdered u → is_two_phase p.evidence ≡ false → length p.rounds ≡ 1 → CanStand (update_target u) u.old (remaining_changes u.old u.new)
  -- On an update of destination trees (docs/THEOREMS.md) with at most 8192 classes packing ends ordered, and it says Done, with KIND
  -- `two-phase` where there are tags and room.
  pub tree : IsComplete result → (u : Update) → FilesMeanTrees files names.files u → (names.kind ≢ pack_kind.TwoPhase → result ≡ status.Done) × IsPackingOrdered u
  -- There it has at most H + b + c rounds, by the bounds of docs/THEOREMS.md. With KIND `two-phase` that isn't said.
  pub tree_rounds : names.kind ≢ pack_kind.TwoPhase → (before : List ℕ) (u : Update) (p : Plan) → old ≡ Some before → result ≡ status.Done → FilesMeanTrees files names.files u → WritesPlan u.net p old new
      → (most dropped unmet : ℕ) → AreBounds (bare_task u) u.old most dropped unmet → length p.rounds ≤ most + dropped + unmet
  -- Refused comes exactly where a configuration has no good path for some class, and the line names the first one, the old configuration
  -- before the new; and with KIND `ordered` where both have them and packing and the search end stuck, and the lines have the rounds of
  -- the search.
  pub refusals : RefusalPromise (FilesMeanUpdate files names.files) update_count (IsPackable names.kind) (IsPackRefusal names.kind) old new result
  -- Too few tags, and a switch that is too small, come exactly where packing and the search end stuck and these don't suffice, tags before
  -- tables, and with KIND `two-phase` also where they aren't stuck; the lines have the numbers and the rounds of the search that is stuck.
  -- With `ordered` they never come.
  pub too_few : IsComplete result → ((result ≡ status.TooFewTags) ↔ FilesPackNoTags files names)
  pub too_few_lines : IsComplete result → (none : FilesPackNoTags files names)
      → Appends old new (lines.too_few_lines none.update.net (length none.update.net.vlans) (length (available_tags none.update.net)) none.tried)
  pub too_small : IsComplete result → ((result ≡ status.TooSmall) ↔ FilesPackNoRoom files names)
  pub too_small_lines : IsComplete result → (none : FilesPackNoRoom files names)
      → Appends old new (lines.too_small_lines none.update.net none.switch none.need none.capacity none.tried)
