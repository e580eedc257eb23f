use Rattle.std.proofs.Common.{◌≡◌, ◌++◌, drop}
use Rattle.schedule_replay.specs.Traces.{stops_text}
use Rattle.schedule_replay.proofs.traces.add_stops.Given as goal

abbrev pub invariant-loop-stop : goal.invariant-loop-stop
invariant-loop-stop l = l.text.items ++ stops_text l.net (drop l.stop-index l.stops) ≡ l.initial.text.items ++ stops_text l.net l.stops
