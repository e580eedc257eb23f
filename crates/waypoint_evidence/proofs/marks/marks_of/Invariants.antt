use Rattle.std.proofs.Common.{◌≡◌, ◌==◌, ◌<◌, ℕ, length, get_or, false}
use Rattle.std.specs.Int.{bit_at}
use Rattle.waypoint_evidence.proofs.marks.marks_of.Given as goal
use Rattle.net_base.specs.Switches.{most_switches}

abbrev pub invariant-loop-n : goal.invariant-loop-n
invariant-loop-n l = (length l.marks ≡ most_switches) × ((k : ℕ) → k < l.n → get_or l.marks k false ≡ (bit_at l.set k == 1))
