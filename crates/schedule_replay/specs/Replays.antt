-- How far a schedule is carried out.
use Rattle.std.specs.Prelude.{◌≡◌, ℕ, List, ◌∷◌, ◌++◌, Result, Ok, Err}
use Rattle.update_model.specs.Runs.{AreEnabled, state_after}
use Rattle.update_model.specs.States.{IsEnabled}
use Rattle.update_model.specs.Worlds.{WorldState, world_after}
use Rattle.schedule_replay.specs.declared.running.ReplayFault.{ReplayFault}
use Rattle.schedule_replay.specs.declared.running.ReplayFault.TheVariants.{NotEnabled, Memory}
use Rattle.schedule_replay.specs.declared.schedule.ScheduleLine.{ScheduleLine}
use Rattle.schedule_replay.specs.Schedules.{events_of}

-- the first lines of a schedule are carried out, and the rest is left: the events of the first are each enabled in turn, and
-- the new world is the old one after them
pub record IsCarriedOut (old new : WorldState) (schedule first rest : List ScheduleLine) : Type 0 where
  pub parts : schedule ≡ first ++ rest
  pub enabled : AreEnabled old.net old.rounds old.state (events_of first)
  pub after : new ≡ record old { state = state_after old.net old.rounds old.state (events_of first) }

-- a schedule is carried out up to the line of this number, in which the first event stands that isn't enabled
pub record StopsAt (old new : WorldState) (schedule : List ScheduleLine) (number : ℕ) : Type 0 where
  pub first : List ScheduleLine
  pub line : ScheduleLine
  pub rest : List ScheduleLine
  pub before : IsCarriedOut old new schedule first (line ∷ rest)
  pub not_enabled : ¬ IsEnabled new.net new.rounds new.state line.event
  pub is : number ≡ line.line

-- a schedule is carried out up to some line
pub record StopsEarly (old new : WorldState) (schedule : List ScheduleLine) : Type 0 where
  pub first : List ScheduleLine
  pub rest : List ScheduleLine
  pub before : IsCarriedOut old new schedule first rest

-- what a refusal says
abbrev pub StopsBy : WorldState → WorldState → List ScheduleLine → ReplayFault → Type 0
StopsBy old new schedule (NotEnabled number) = StopsAt old new schedule number
StopsBy old new schedule Memory = StopsEarly old new schedule

-- the event of a line is made, or refused without a trace
abbrev pub StepsOrStops : {T : Type 0} → WorldState → WorldState → ScheduleLine → Result T ReplayFault → Type 0
StepsOrStops old new line (Ok x) = IsEnabled old.net old.rounds old.state line.event × (new ≡ world_after old line.event)
StepsOrStops old new line (Err (NotEnabled number)) = ¬ IsEnabled old.net old.rounds old.state line.event × (number ≡ line.line) × (new ≡ old)
StepsOrStops old new line (Err Memory) = new ≡ old
