-- Schedules: the events of a recorded run, one a line.
use Rattle.std.specs.Prelude.{ℕ, suc, List, [], ◌∷◌, ◌++◌, map, length, nat_lt, Result, Ok, if◌then◌else◌}
use Rattle.net_base.specs.Reading.{◌>>=◌, check, need, in_turn}
use Rattle.topology.specs.Networks.{Network}
use Rattle.update_model.specs.declared.Event.{Event}
use Rattle.schedule_replay.specs.declared.schedule.ScheduleLine.{ScheduleLine}
use Rattle.schedule_replay.specs.declared.fault.ScheduleFault.{ScheduleFault}
use Rattle.schedule_replay.specs.declared.fault.ScheduleFault.TheVariants.{BadLine, TooMany}
use Rattle.net_base.specs.Lines.{lines_of, is_comment}
use Rattle.schedule_replay.specs.EventLines.{event_in}

-- these events and the one of a line, of which there are at most 4,000,000
unfoldable pub event_at : Network → ℕ → List ScheduleLine → List ℕ → Result (List ScheduleLine) ScheduleFault
event_at net number before line = do
  event ← need (event_in net line) (BadLine number)
  _ ← check (nat_lt (length before) 4000000) TooMany
  Ok (before ++ record { line = number; event = event } ∷ [])

-- these events and that of a line, if it isn't a comment
abbrev pub line_at : Network → ℕ → List ScheduleLine → List ℕ → Result (List ScheduleLine) ScheduleFault
line_at net number before line = if is_comment line then Ok before else event_at net number before line

-- the events of the file, each with the number of its line, from 1; or the first refusal
abbrev pub schedule_in : Network → List ℕ → Result (List ScheduleLine) ScheduleFault
schedule_in net bytes = in_turn (line_at net) 1 [] (lines_of bytes)

-- the events without their lines
abbrev pub events_of : List ScheduleLine → List Event
events_of schedule = map (λ l. l.event) schedule

-- the events in lines in a row, from this one on
abbrev pub numbered_lines : ℕ → List Event → List ScheduleLine
numbered_lines n [] = []
numbered_lines n (e ∷ es) = record { line = n; event = e } ∷ numbered_lines (suc n) es
