-- What is said of an update that is to be packed.
use Rattle.std.specs.Prelude.{◌≡◌, ◌⊎◌, ℕ, ◌+◌, ◌≤◌, List, ◌++◌, length, codes}
use Rattle.topology.specs.Networks.{Network}
use Rattle.update_model.specs.declared.Change.{Change}
use Rattle.certificates.specs.Updates.{Update}
use Rattle.law_packed_rounds.specs.Packing.{PacksOrdered}
use Rattle.law_packed_trees.specs.Bounds.{AreBounds}
use Rattle.round_planner.specs.Updates.{update_target, bare_task}
use Rattle.command_base.specs.declared.status.Status.TheVariants as status
use Rattle.command_base.specs.Answers.{Answer}
use Rattle.plan_command.specs.NoPlanLines.{tried_line}
use Rattle.plan_command.specs.Planned.{SaysPlanOf, SaysWhyNone, IsPlanAnswer}
use Rattle.pack_command.specs.declared.names.PackKind.{PackKind}
use Rattle.pack_command.specs.declared.names.PackKind.TheVariants as pack_kind
use Rattle.pack_command.specs.Chosen.{AreTriedFor, HasNoOrderedPlan, IsPackPlan}

-- the lines where an ordered plan alone may be written and there is none
abbrev pub no_ordered_lines : Network → List (List Change) → List ℕ
no_ordered_lines net tried = codes "no ordered plan\n" ++ tried_line net tried

-- packing and the search end stuck, the search after the rounds that the lines have
pub record SaysNoOrdered (u : Update) (answer : Answer) : Type 0 where
  pub tried : List (List Change)
  pub none : HasNoOrderedPlan u tried
  pub answer_is : answer ≡ record { status = status.Refused; text = no_ordered_lines u.net tried }

-- no plan may be written: there is no ordered one, or two phases don't fit
abbrev pub SaysNoPlan : PackKind → Update → Answer → Type 0
SaysNoPlan pack_kind.Any u answer = SaysWhyNone (AreTriedFor pack_kind.Any) u answer
SaysNoPlan pack_kind.Ordered u answer = SaysNoOrdered u answer
SaysNoPlan pack_kind.TwoPhase u answer = SaysWhyNone (AreTriedFor pack_kind.TwoPhase) u answer

-- what packing and the search lead to: the chosen plan, or why there is none
abbrev pub SaysChosen : PackKind → Update → Answer → Type 0
SaysChosen kind u answer = SaysPlanOf (IsPackPlan kind) u answer ⊎ SaysNoPlan kind u answer

-- packing ends ordered, and takes few rounds
pub record PacksInFewRounds (u : Update) : Type 0 where
  pub rounds : List (List Change)
  pub ends : PacksOrdered (update_target u) u.old rounds
  pub few : (most dropped unmet : ℕ) → AreBounds (bare_task u) u.old most dropped unmet → length rounds ≤ most + dropped + unmet

-- the answer on an update: too many classes, an end that isn't good, or what packing and the search lead to; on an update of
-- destination trees packing ends ordered, and takes few rounds
abbrev pub IsPacked : PackKind → Update → Answer → Type 0
IsPacked kind u answer = IsPlanAnswer (IsPackPlan kind) (SaysNoPlan kind) (λ v said. PacksInFewRounds v) u answer
