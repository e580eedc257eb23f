use Rattle.std.proofs.Common.{◌≡◌, take}
use Rattle.schedule_pilot.specs.Counts.{pair_sums}
use Rattle.schedule_pilot.proofs.flag_tree.pair_sums.Given as goal

abbrev pub invariant-loop-i : goal.invariant-loop-i
invariant-loop-i l = l.sums.items ≡ take l.i (pair_sums l.row)
