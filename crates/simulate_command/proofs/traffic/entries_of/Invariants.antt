use Rattle.std.proofs.Common.{◌≡◌, length}
use Rattle.simulate_command.proofs.TrafficLaws.{AreInTurn}
use Rattle.simulate_command.proofs.traffic.entries_of.Given as goal

abbrev pub invariant-loop-i : goal.invariant-loop-i
invariant-loop-i l = record { count : length l.entries.items ≡ l.i; in_turn : AreInTurn l.classes l.entries.items }
