use Rattle.std.proofs.Common.{◌≤◌, length}
use Rattle.std.specs.List.{AllByRecursion}
use Rattle.schedule_replay.specs.EventTexts.{HasLine}
use Rattle.run_tests.proofs.schedule_replay_tests.events_of.Given as goal

abbrev pub invariant-loop-line : goal.invariant-loop-line
invariant-loop-line g l = record { lines : AllByRecursion (HasLine l.net) l.events; few : length l.events ≤ l.line-index }
