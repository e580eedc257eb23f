-- What the files of `pack` mean, and what follows from it.
use Rattle.std.specs.Prelude.{◌≡◌, ◌⊎◌, ℕ, List, [], ◌∷◌, ◌++◌}
use Rattle.file_access.specs.Outside.{Files}
use Rattle.net_base.specs.Members.{IsIn}
use Rattle.flow_rules.specs.declared.rules.Rule.{Rule}
use Rattle.update_model.specs.Changes.{tables_after}
use Rattle.update_model.specs.Remaining.{remaining_changes}
use Rattle.update_model.specs.declared.Change.{Change}
use Rattle.certificates.specs.Updates.{Update}
use Rattle.table_difference.specs.Targets.{Target}
use Rattle.law_packed_rounds.specs.Packing.{CanStand}
use Rattle.two_phase.specs.Laws.{FitsTwoPhase}
use Rattle.plan_command.specs.Ends.{BothEndsAreGood, IsEndLine}
use Rattle.plan_command.specs.NewPlans.{FilesHave, FilesLackTags, FilesLackRoom, IsOrdered}
use Rattle.pack_command.specs.declared.names.PackKind.{PackKind}
use Rattle.pack_command.specs.declared.names.PackKind.TheVariants as pack_kind
use Rattle.pack_command.specs.Chosen.{AreTriedFor, HasNoOrderedPlan, IsPackingOrdered}
use Rattle.pack_command.specs.Names.{PackNames}
use Rattle.pack_command.specs.Packed.{no_ordered_lines}

-- packing ends ordered, or the search does
abbrev pub EndsInOrder : Update → Type 0
EndsInOrder u = IsPackingOrdered u ⊎ IsOrdered u

-- one of them ends ordered, or the plan of two phases fits, as far as such a plan may be written
abbrev pub HasPackPlan : PackKind → Update → Type 0
HasPackPlan pack_kind.Any u = EndsInOrder u ⊎ FitsTwoPhase u.net u.old u.new
HasPackPlan pack_kind.Ordered u = EndsInOrder u
HasPackPlan pack_kind.TwoPhase u = FitsTwoPhase u.net u.old u.new

-- the files mean an update with good ends that has such a plan
abbrev pub FilesHavePackPlan : Files → PackNames → Type 0
FilesHavePackPlan files names = FilesHave (HasPackPlan names.kind) files names.files

-- the files lack tags for two phases where no ordered plan may be written
abbrev pub FilesPackNoTags : Files → PackNames → Type 0
FilesPackNoTags files names = FilesLackTags (AreTriedFor names.kind) files names.files

-- the files lack room for two phases where no ordered plan may be written
abbrev pub FilesPackNoRoom : Files → PackNames → Type 0
FilesPackNoRoom files names = FilesLackRoom (AreTriedFor names.kind) files names.files

-- the update isn't refused: both ends are good, and where only an ordered plan may be written, packing or the search ends ordered
abbrev pub IsPackable : PackKind → Update → Type 0
IsPackable pack_kind.Any u = BothEndsAreGood u
IsPackable pack_kind.Ordered u = BothEndsAreGood u × EndsInOrder u
IsPackable pack_kind.TwoPhase u = BothEndsAreGood u

-- both ends are good, and the lines have the rounds after which the search ends stuck, as packing does
pub record IsNoOrderedText (u : Update) (text : List ℕ) : Type 0 where
  pub good : BothEndsAreGood u
  pub tried : List (List Change)
  pub none : HasNoOrderedPlan u tried
  pub text_is : text ≡ no_ordered_lines u.net tried

-- why the update is refused: the line names the first break; or there is no ordered plan, and only such a one may be written
abbrev pub IsPackRefusal : PackKind → Update → List ℕ → Type 0
IsPackRefusal pack_kind.Any u text = IsEndLine u text
IsPackRefusal pack_kind.Ordered u text = IsEndLine u text ⊎ IsNoOrderedText u text
IsPackRefusal pack_kind.TwoPhase u text = IsEndLine u text

-- each round is full: no change that remains before it and isn't in it can stand in it besides
abbrev pub AreFull : Target → List (List Rule) → List (List Change) → Type 0
AreFull to tables [] = Unit {0}
AreFull to tables (round ∷ rounds) =
    ((c : Change) → IsIn c (remaining_changes tables to.new) → ¬ IsIn c round → ¬ CanStand to tables (round ++ c ∷ [])) × AreFull to (tables_after round tables) rounds
