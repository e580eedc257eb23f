use Rattle.std.proofs.Common.{length}
use Rattle.schedule_pilot.specs.Counts.{AreSumRows, last_row}
use Rattle.schedule_pilot.proofs.flag_tree.rows_above.Given as goal

abbrev pub invariant-rising : goal.invariant-rising
invariant-rising l = AreSumRows l.fn.lowest.items l.rows

abbrev pub decreases-rising : goal.decreases-rising
decreases-rising l = length (last_row l.rows)
