-- What contracts see of an update that may be turned back while it is replayed, and how far a schedule is carried out.
use Rattle.std.specs.Prelude.{◌≡◌, ◌^◌, ℕ, ◌<◌, Bool, false, List, ◌∷◌, ◌++◌, length, Option, None, Some, Result, Ok, Err}
use Rattle.topology.specs.Networks.{switch_count}
use Rattle.flow_rules.specs.declared.rules.Action.{Action}
use Rattle.flow_rules.specs.declared.rules.Rule.{Rule}
use Rattle.update_model.specs.Mixtures.{Rollout}
use Rattle.update_model.specs.Worlds.{IsPhaseOf}
use Rattle.update_model.specs.declared.Change.{Change}
use Rattle.schedule_replay.specs.declared.running.ReplayFault.{ReplayFault}
use Rattle.schedule_replay.specs.declared.running.ReplayFault.TheVariants.{NotEnabled, Memory}
use Rattle.two_way_replay.specs.Courses.{CourseState, IsStepEnabled, AreStepsEnabled, course_after, course_state}
use Rattle.two_way_replay.specs.Entries.{earlier_actions}
use Rattle.two_way_replay.specs.TwoWaySchedules.{steps_of}
use Rattle.two_way_replay.specs.declared.schedule.TwoWayLine.{TwoWayLine}
use Rattle.two_way_replay.specs.declared.schedule.TwoWayStep.{TwoWayStep}

-- an update, and a state of it
pub record CourseWorld : Type 0 where
  pub update : Rollout
  pub course : CourseState

-- what every world keeps: one table per switch, few rounds, a phase of them, and two flags for each change of a running round
pub record IsCourseWorld (w : CourseWorld) : Type 0 where
  pub tables : length w.course.state.tables ≡ switch_count w.update.net
  pub few : length w.update.rounds < 2 ^ 32
  pub phase : IsPhaseOf w.update.rounds w.course.state.phase w.course.state.in_force
  pub flags : length w.course.taken_back ≡ length w.course.state.in_force

-- what the changes name in the tables before their rounds is known, at the latest where a round is being undone
abbrev pub AreKnown : List (List Rule) → List (List Change) → Bool → Option (List (List (Option Action))) → Type 0
AreKnown old rounds is_undone None = is_undone ≡ false
AreKnown old rounds is_undone (Some actions) = actions ≡ earlier_actions old rounds

-- the world after a step
abbrev pub world_after_step : CourseWorld → TwoWayStep → CourseWorld
world_after_step w s = record w { course = course_after w.update w.course s }

-- the first lines of a schedule are carried out, and the rest is left: the steps of the first are each enabled in turn, and the new
-- world is the old one after them
pub record IsReplayedTo (old new : CourseWorld) (schedule first rest : List TwoWayLine) : Type 0 where
  pub parts : schedule ≡ first ++ rest
  pub enabled : AreStepsEnabled old.update old.course (steps_of first)
  pub after : new ≡ record old { course = course_state old.update old.course (steps_of first) }

-- a schedule is carried out up to the line of this number, in which the first step stands that isn't enabled
pub record StopsAtStep (old new : CourseWorld) (schedule : List TwoWayLine) (number : ℕ) : Type 0 where
  pub first : List TwoWayLine
  pub line : TwoWayLine
  pub rest : List TwoWayLine
  pub before : IsReplayedTo old new schedule first (line ∷ rest)
  pub not_enabled : ¬ IsStepEnabled new.update new.course line.step
  pub is : number ≡ line.line

-- what a refusal says; where memory is wanting, nothing
abbrev pub StopsCourse : CourseWorld → CourseWorld → List TwoWayLine → ReplayFault → Type 0
StopsCourse old new schedule (NotEnabled number) = StopsAtStep old new schedule number
StopsCourse old new schedule Memory = Unit {0}

-- the step of a line is made, or refused without a trace
abbrev pub TakesOrStops : {T : Type 0} → CourseWorld → CourseWorld → TwoWayLine → Result T ReplayFault → Type 0
TakesOrStops old new line (Ok x) = IsStepEnabled old.update old.course line.step × (new ≡ world_after_step old line.step)
TakesOrStops old new line (Err (NotEnabled number)) = ¬ IsStepEnabled old.update old.course line.step × (number ≡ line.line) × (new ≡ old)
TakesOrStops old new line (Err Memory) = new ≡ old
