-- What the files of `plan` mean, and what follows from it.
use Rattle.std.specs.Prelude.{◌≡◌, ◌⊎◌, ℕ, ◌<◌, ◌≤◌, List, length, Ok, Option, Some}
use Rattle.std.specs.Io.KnownBytes.{Appends}
use Rattle.file_access.specs.Outside.{Files}
use Rattle.net_base.specs.declared.ids.SwitchId.{SwitchId}
use Rattle.update_model.specs.declared.Change.{Change}
use Rattle.update_model.specs.Remaining.{remaining_changes}
use Rattle.certificates.specs.Trees.{IsTreeUpdate}
use Rattle.certificates.specs.declared.Plan.{Plan}
use Rattle.plan_format.specs.Plans.{plan_in}
use Rattle.plan_text.specs.PlanText.{plan_text}
use Rattle.round_planner.specs.Search.{EndsOrdered, EndsStuck}
use Rattle.round_planner.specs.Ends.{IsPlanOf}
use Rattle.round_planner.specs.Updates.{update_count, update_target, bare_task}
use Rattle.tag_allocator.specs.Tags.{available_tags}
use Rattle.two_phase.specs.Laws.{FitsTwoPhase}
use Rattle.two_phase.specs.Plans.{IsFirstTooSmall}
use Rattle.command_base.specs.Names.{UpdateNames}
use Rattle.command_base.specs.declared.status.Status.{Status}
use Rattle.command_base.specs.JudgedFiles.{RefusalPromise}
use Rattle.command_base.specs.Judgements.{most_classes}
use Rattle.certificates.specs.Updates.{Update}
use Rattle.command_base.specs.Updates.{FilesMeanUpdate}
use Rattle.plan_command.specs.Ends.{BothEndsAreGood, IsEndLine}

-- the files mean this update, there are few enough classes, and both ends are good
pub record FilesMeanGoodEnds (files : Files) (names : UpdateNames) (u : Update) : Type 0 where
  pub mean : FilesMeanUpdate files names u
  pub few : update_count u ≤ most_classes
  pub good : BothEndsAreGood u

-- the files mean this update of destination trees, and there are few enough classes
pub record FilesMeanTrees (files : Files) (names : UpdateNames) (u : Update) : Type 0 where
  pub mean : FilesMeanUpdate files names u
  pub few : update_count u ≤ most_classes
  pub tree : IsTreeUpdate (bare_task u)

-- the search of the update ends ordered
pub record IsOrdered (u : Update) : Type 0 where
  pub changes : List Change
  pub ends : EndsOrdered (update_target u) u.old changes

-- the search of the update ends stuck
pub record IsStuck (u : Update) : Type 0 where
  pub changes : List Change
  pub ends : EndsStuck (update_target u) u.old changes

-- the search ends ordered, or it ends stuck and the plan of two phases fits
abbrev pub HasPlan : Update → Type 0
HasPlan u = IsOrdered u ⊎ (IsStuck u × FitsTwoPhase u.net u.old u.new)

-- the files mean an update with good ends of which this holds
pub record FilesHave (Has : Update → Type 0) (files : Files) (names : UpdateNames) : Type 0 where
  pub update : Update
  pub mean : FilesMeanGoodEnds files names update
  pub has : Has update

-- the files mean an update with good ends that has a plan
abbrev pub FilesHavePlan : Files → UpdateNames → Type 0
FilesHavePlan files names = FilesHave HasPlan files names

-- The run refuses exactly the updates of which an end isn't good, by a line that names the first break, and too many classes.
abbrev pub RefusesBadEnds : Files → UpdateNames → Option (List ℕ) → Option (List ℕ) → Status → Type 0
RefusesBadEnds files names old new result = RefusalPromise (FilesMeanUpdate files names) update_count BothEndsAreGood IsEndLine old new result

-- the files mean an update with good ends, such rounds are tried before two phases, and there are too few tags
pub record FilesLackTags (Tried : Update → List (List Change) → Type 0) (files : Files) (names : UpdateNames) : Type 0 where
  pub update : Update
  pub mean : FilesMeanGoodEnds files names update
  pub tried : List (List Change)
  pub are_tried : Tried update tried
  pub fewer : length (available_tags update.net) < length update.net.vlans

-- the files mean an update with good ends, such rounds are tried before two phases, there are enough tags, and a switch is too small
pub record FilesLackRoom (Tried : Update → List (List Change) → Type 0) (files : Files) (names : UpdateNames) : Type 0 where
  pub update : Update
  pub mean : FilesMeanGoodEnds files names update
  pub tried : List (List Change)
  pub are_tried : Tried update tried
  pub switch : SwitchId
  pub need : ℕ
  pub capacity : ℕ
  pub small : IsFirstTooSmall update.net update.old update.new switch need capacity

-- the text of such a plan was written, and reading it gives this plan
pub record WritesPlanOf (Is : Update → Plan → Type 0) (u : Update) (old new : Option (List ℕ)) : Type 0 where
  pub plan : Plan
  pub which : Is u plan
  pub means : plan_in u.net (plan_text u.net plan) ≡ Ok plan
  pub written : Appends old new (plan_text u.net plan)

-- the text of an ordered plan was written: that of the search, with one round for each rule that is replaced; reading it gives this plan
pub record WritesOrderedPlan (u : Update) (old new : Option (List ℕ)) : Type 0 where
  pub plan : Plan
  pub searched : IsPlanOf (update_target u) u.old plan
  pub count : length plan.rounds ≡ length (remaining_changes u.old u.new)
  pub means : plan_in u.net (plan_text u.net plan) ≡ Ok plan
  pub written : Appends old new (plan_text u.net plan)

-- the other files are the same under the names of an update, and hold this text under a further name
pub record HoldBeside (files others : Files) (names : UpdateNames) (plan text : List ℕ) : Type 0 where
  pub topology : others names.topology ≡ files names.topology
  pub old : others names.old ≡ files names.old
  pub new : others names.new ≡ files names.new
  pub policy : others names.policy ≡ files names.policy
  pub plan_is : others plan ≡ Some text
