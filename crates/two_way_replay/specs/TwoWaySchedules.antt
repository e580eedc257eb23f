-- Schedules of an update that may be turned back: the steps of a recorded run, one a line.
use Rattle.std.specs.Prelude.{ℕ, List, [], ◌∷◌, ◌++◌, map, length, nat_lt, Result, Ok, if◌then◌else◌}
use Rattle.net_base.specs.Lines.{lines_of, is_comment}
use Rattle.net_base.specs.Reading.{◌>>=◌, check, need, in_turn}
use Rattle.topology.specs.Networks.{Network}
use Rattle.schedule_replay.specs.declared.fault.ScheduleFault.{ScheduleFault}
use Rattle.schedule_replay.specs.declared.fault.ScheduleFault.TheVariants.{BadLine, TooMany}
use Rattle.schedule_replay.specs.declared.schedule.ScheduleLine.{ScheduleLine}
use Rattle.two_way_replay.specs.StepLines.{step_in}
use Rattle.two_way_replay.specs.declared.schedule.TwoWayLine.{TwoWayLine}
use Rattle.two_way_replay.specs.declared.schedule.TwoWayStep.{TwoWayStep}
use Rattle.two_way_replay.specs.declared.schedule.TwoWayStep.TheVariants as step

-- these steps and the one of a line, of which there are at most 4,000,000
unfoldable pub two_way_step_at : Network → ℕ → List TwoWayLine → List ℕ → Result (List TwoWayLine) ScheduleFault
two_way_step_at net number before line = do
  step ← need (step_in net line) (BadLine number)
  _ ← check (nat_lt (length before) 4000000) TooMany
  Ok (before ++ record { line = number; step = step } ∷ [])

-- these steps and that of a line, if it isn't a comment
abbrev pub two_way_line_at : Network → ℕ → List TwoWayLine → List ℕ → Result (List TwoWayLine) ScheduleFault
two_way_line_at net number before line = if is_comment line then Ok before else two_way_step_at net number before line

-- the steps of the file, each with the number of its line, from 1; or the first refusal
abbrev pub two_way_schedule_in : Network → List ℕ → Result (List TwoWayLine) ScheduleFault
two_way_schedule_in net bytes = in_turn (two_way_line_at net) 1 [] (lines_of bytes)

-- the steps without their lines
abbrev pub steps_of : List TwoWayLine → List TwoWayStep
steps_of schedule = map (λ l. l.step) schedule

-- a line of a schedule of a run that is never turned back
abbrev pub onward_line : ScheduleLine → TwoWayLine
onward_line l = record { line = l.line; step = step.Event l.event }
