use Rattle.std.proofs.Common.{◌≡◌, take}
use Rattle.two_phase.proofs.planning.copy_rounds.Given as goal

abbrev pub invariant-loop-k : goal.invariant-loop-k
invariant-loop-k l = l.copy ≡ take l.k l.rounds
