use Rattle.std.proofs.Common.{◌≡◌, ◌+◌, take}
use Rattle.demands.specs.Duties.{duties_of}
use Rattle.check_reasons.specs.Positions.{position_count}
use Rattle.check_reasons.proofs.positions.has_positions.Given as goal

abbrev pub invariant-loop-i : goal.invariant-loop-i
invariant-loop-i l = l.left + position_count (take l.i (duties_of l.duties.demands l.fn.numbered.class.entry l.fn.numbered.class.first).chains) ≡ l.count
