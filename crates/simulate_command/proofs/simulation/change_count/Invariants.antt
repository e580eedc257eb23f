use Rattle.std.proofs.Common.{◌≡◌, take, length}
use Rattle.std.specs.Prelude.{sum_by}
use Rattle.simulate_command.proofs.simulation.change_count.Given as goal

abbrev pub invariant-loop-k : goal.invariant-loop-k
invariant-loop-k l = l.changes ≡ sum_by length (take l.k l.rounds)
