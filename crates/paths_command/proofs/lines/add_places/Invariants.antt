use Rattle.std.proofs.Common.{◌≡◌, ◌++◌, drop, map}
use Rattle.net_base.specs.Places.{stop_of}
use Rattle.paths_command.specs.Lines.{stops_text}
use Rattle.paths_command.proofs.lines.add_places.Given as goal

abbrev pub invariant-loop-place : goal.invariant-loop-place
invariant-loop-place l =
    l.text.items ++ stops_text l.net (map stop_of (drop l.place-index l.places)) ≡ l.initial.text.items ++ stops_text l.net (map stop_of l.places)
