-- What is found among the mixed walks of all rounds and classes: the first that breaks its duties, as a run; or that none does.
use Rattle.std.specs.Prelude.{ℕ, ◌<◌, List, length}
use Rattle.dest_classes.specs.Classes.{ClassList, IsClass}
use Rattle.dest_classes.specs.declared.Class.{Class}
use Rattle.demands.specs.Duties.{DemandView, duties_of}
use Rattle.update_model.specs.Mixtures.{Rollout}
use Rattle.update_model.specs.declared.Event.{Event}
use Rattle.breaking_walks.specs.Breaking.{HasBreakingWalk}
use Rattle.topology.specs.Networks.{Network}
use Rattle.update_model.specs.declared.Change.{Change}
use Rattle.counter_run.specs.Showing.{IsBreakingRun, AreFewFor}
use Rattle.counter_run.specs.declared.Explained.{Explained}
use Rattle.counter_run.specs.declared.Explained.TheVariants.{Run, Nothing}

-- some mixed walk of round k breaks the duties of the class
abbrev pub ClassBreaks : Rollout → List DemandView → ℕ → Class → Type 0
ClassBreaks u demands k class = HasBreakingWalk u k class.first class.entry (duties_of demands class.entry class.first)

-- no class breaks in a round
abbrev pub NoneBreaks : Rollout → ClassList → List DemandView → ℕ → Type 0
NoneBreaks u classes demands k = (n : ℕ) (class : Class) → IsClass classes n class → ¬ ClassBreaks u demands k class

-- the first round in which a class breaks, the first such class there, and a run that shows it
pub record IsFirstBreakingRun (u : Rollout) (classes : ClassList) (demands : List DemandView) (events : List Event) : Type 0 where
  pub round : ℕ
  pub within : round < length u.rounds
  pub number : ℕ
  pub class : Class
  pub is_class : IsClass classes number class
  pub breaks : ClassBreaks u demands round class
  pub rounds_before : (k : ℕ) → k < round → NoneBreaks u classes demands k
  pub classes_before : (n : ℕ) (other : Class) → n < number → IsClass classes n other → ¬ ClassBreaks u demands round other
  pub shown : IsBreakingRun u demands round class events

-- what is answered: such a run, or nothing where no class breaks in any round
abbrev pub IsExplained : Rollout → ClassList → List DemandView → Explained → Type 0
IsExplained u classes demands (Run events) = IsFirstBreakingRun u classes demands events
IsExplained u classes demands Nothing = (k : ℕ) → k < length u.rounds → NoneBreaks u classes demands k

-- its events are few
abbrev pub HasFewEvents : Network → List (List Change) → Explained → Type 0
HasFewEvents net rounds (Run events) = AreFewFor net rounds events
HasFewEvents net rounds Nothing = Unit {0}
