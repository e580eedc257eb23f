-- What is said of an update that is to be planned.
use Rattle.std.specs.Prelude.{◌≡◌, ◌⊎◌, ℕ, ◌≤◌, List, length}
use Rattle.net_base.specs.declared.ids.SwitchId.{SwitchId}
use Rattle.update_model.specs.declared.Change.{Change}
use Rattle.update_model.specs.Remaining.{remaining_changes}
use Rattle.certificates.specs.Updates.{Update, task_for}
use Rattle.certificates.specs.Certified.{IsCertified, classes_for, is_two_phase}
use Rattle.certificates.specs.Consistent.{IsConsistent}
use Rattle.certificates.specs.Trees.{IsTreeUpdate}
use Rattle.certificates.specs.declared.Plan.{Plan}
use Rattle.table_difference.specs.SameClasses.{HasSameClasses}
use Rattle.round_planner.specs.Ends.{IsPlanOf, AreStuck}
use Rattle.round_planner.specs.Updates.{update_classes, update_count, update_target, bare_task}
use Rattle.two_phase.specs.Laws.{FitsTwoPhase}
use Rattle.two_phase.specs.Plans.{two_phase_plan, AreTooFew, IsFirstTooSmall}
use Rattle.command_base.specs.declared.status.Status.TheVariants as status
use Rattle.plan_command.specs.NoPlanLines.{too_few_lines, too_small_lines}
use Rattle.command_base.specs.Answers.{Answer}
use Rattle.command_base.specs.Judgements.{most_classes}
use Rattle.upgrade_command.specs.Texts.{SaysPlan}
use Rattle.plan_command.specs.Ends.{BothEndsAreGood, IsEndsRefusal}

-- ---- what a command says that plans

-- the answer is the text of such a plan, which is certified and keeps every packet of every run consistent
pub record SaysPlanOf (Is : Update → Plan → Type 0) (u : Update) (answer : Answer) : Type 0 where
  pub plan : Plan
  pub which : Is u plan
  pub says : SaysPlan u.net plan answer
  pub certified : IsCertified (task_for u plan) plan.evidence
  pub consistent : IsConsistent u plan.rounds (is_two_phase plan.evidence)
  pub classes : HasSameClasses (classes_for (task_for u plan)) (update_classes u)

-- there are too few tags for two phases; these rounds were tried before
pub record SaysTooFew (u : Update) (tried : List (List Change)) (answer : Answer) : Type 0 where
  pub need : ℕ
  pub has : ℕ
  pub few : AreTooFew u.net need has
  pub answer_is : answer ≡ record { status = status.TooFewTags; text = too_few_lines u.net need has tried }

-- there are enough tags, and a switch is too small for two phases; these rounds were tried before
pub record SaysTooSmall (u : Update) (tried : List (List Change)) (answer : Answer) : Type 0 where
  pub switch : SwitchId
  pub need : ℕ
  pub capacity : ℕ
  pub small : IsFirstTooSmall u.net u.old u.new switch need capacity
  pub answer_is : answer ≡ record { status = status.TooSmall; text = too_small_lines u.net switch need capacity tried }

-- two phases don't fit; these rounds were tried before
abbrev pub SaysNoPhases : Update → List (List Change) → Answer → Type 0
SaysNoPhases u tried answer = SaysTooFew u tried answer ⊎ SaysTooSmall u tried answer

-- why there is no plan: two phases don't fit, and such rounds were tried before
pub record SaysWhyNone (Tried : Update → List (List Change) → Type 0) (u : Update) (answer : Answer) : Type 0 where
  pub tried : List (List Change)
  pub are_tried : Tried u tried
  pub why : SaysNoPhases u tried answer

-- there are few enough classes, both ends are good, and the answer is such a plan or says that there is none; on an update of
-- destination trees this holds besides
pub record SaysOfGoodEnds (Is : Update → Plan → Type 0) (SaysNone OfTrees : Update → Answer → Type 0) (u : Update) (answer : Answer) : Type 0 where
  pub few : update_count u ≤ most_classes
  pub good : BothEndsAreGood u
  pub found : SaysPlanOf Is u answer ⊎ SaysNone u answer
  pub tree : IsTreeUpdate (bare_task u) → OfTrees u answer

-- the answer on an update: too many classes, an end that isn't good, or what is said where both are
abbrev pub IsPlanAnswer : (Update → Plan → Type 0) → (Update → Answer → Type 0) → (Update → Answer → Type 0) → Update → Answer → Type 0
IsPlanAnswer Is SaysNone OfTrees u answer = IsEndsRefusal u answer ⊎ SaysOfGoodEnds Is SaysNone OfTrees u answer

-- ---- what `plan` says

-- the search ended stuck, and the plan is that of two phases with the rounds of the search as those that were tried
pub record IsTwoPhasePlan (u : Update) (p : Plan) : Type 0 where
  pub rounds : List (List Change)
  pub stuck : AreStuck (update_target u) u.old rounds
  pub fits : FitsTwoPhase u.net u.old u.new
  pub plan_is : p ≡ two_phase_plan u.net u.old u.new rounds

-- the plan of a search that ended ordered, or of two phases
abbrev pub IsNewPlan : Update → Plan → Type 0
IsNewPlan u p = IsPlanOf (update_target u) u.old p ⊎ IsTwoPhasePlan u p

-- the rounds of a search that ended stuck
abbrev pub AreSearched : Update → List (List Change) → Type 0
AreSearched u tried = AreStuck (update_target u) u.old tried

-- what the search leads to: a new plan, or why there is none
abbrev pub SaysSearched : Update → Answer → Type 0
SaysSearched u answer = SaysPlanOf IsNewPlan u answer ⊎ SaysWhyNone AreSearched u answer

-- the answer is the text of an ordered plan: that of the search, with one round for each rule that is replaced
pub record SaysOrdered (u : Update) (answer : Answer) : Type 0 where
  pub plan : Plan
  pub searched : IsPlanOf (update_target u) u.old plan
  pub says : SaysPlan u.net plan answer
  pub count : length plan.rounds ≡ length (remaining_changes u.old u.new)

-- the answer on an update: too many classes, an end that isn't good, or what the search leads to, which is an ordered plan on one of
-- destination trees
abbrev pub IsPlanned : Update → Answer → Type 0
IsPlanned u answer = IsPlanAnswer IsNewPlan (SaysWhyNone AreSearched) SaysOrdered u answer
