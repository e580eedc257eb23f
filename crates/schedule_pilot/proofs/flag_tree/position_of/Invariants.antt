use Rattle.std.proofs.Common.{◌<◌, [], length}
use Rattle.std.specs.Prelude.{slice_index_or}
use Rattle.schedule_pilot.specs.Counts.{IsCountedAt}
use Rattle.schedule_pilot.proofs.flag_tree.position_of.Given as goal

abbrev pub invariant-falling : goal.invariant-falling
invariant-falling l = IsCountedAt (slice_index_or l.rows l.j []) l.k l.spot.position l.spot.rest × (l.j < length l.rows)

abbrev pub decreases-falling : goal.decreases-falling
decreases-falling l = l.j
