-- The rounds as they are gone through, one after the other.
use Rattle.std.specs.Prelude.{ℕ, ◌<◌, List}
use Rattle.dest_classes.specs.Classes.{ClassList}
use Rattle.dest_classes.specs.declared.Class.{Class}
use Rattle.demands.specs.Duties.{DemandView}
use Rattle.update_model.specs.declared.Event.{Event}
use Rattle.counter_run.specs.Showing.{IsBreakingRun, AreFewFor, shown_rollout}
use Rattle.counter_run.specs.Explaining.{ClassBreaks, NoneBreaks, IsFirstBreakingRun}
use Rattle.counter_run.specs.declared.showing.ShownRound.{ShownRound}

-- the class breaks in the round, and a run of few events shows it
pub record IsShownAt (stage : ShownRound) (demands : List DemandView) (class : Class) (events : List Event) : Type 0 where
  pub breaks : ClassBreaks (shown_rollout stage) demands stage.round.number class
  pub shown : IsBreakingRun (shown_rollout stage) demands stage.round.number class events
  pub few : AreFewFor stage.round.net.now stage.round.rounds.now events

-- it is the first breaking run of the update, of few events
pub record IsFirstAt (stage : ShownRound) (classes : ClassList) (demands : List DemandView) (events : List Event) : Type 0 where
  pub first : IsFirstBreakingRun (shown_rollout stage) classes demands events
  pub few : AreFewFor stage.round.net.now stage.round.rounds.now events

-- no class breaks in an earlier round
abbrev pub NoneBefore : ShownRound → ClassList → List DemandView → Type 0
NoneBefore stage classes demands = (k : ℕ) → k < stage.round.number → NoneBreaks (shown_rollout stage) classes demands k
