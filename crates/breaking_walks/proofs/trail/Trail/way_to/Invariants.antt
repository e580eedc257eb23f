use Rattle.std.proofs.Common.{◌<◌, length, reverse}
use Rattle.breaking_walks.specs.Trails.{IsWayTo}
use Rattle.breaking_walks.proofs.trail.Trail.way_to.Given as goal

abbrev pub invariant-back : goal.invariant-back
invariant-back l = (l.at < length l.self) × IsWayTo l.self l.number l.at (reverse l.places.items)

abbrev pub decreases-back : goal.decreases-back
decreases-back l = l.at
