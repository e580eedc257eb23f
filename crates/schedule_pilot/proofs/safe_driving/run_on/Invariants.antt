use Rattle.std.proofs.Common.{◌≤◌, ◌-◌}
use Rattle.schedule_pilot.specs.Counted.{IsCounted}
use Rattle.schedule_pilot.specs.Ends.{AreEntries}
use Rattle.schedule_pilot.proofs.DriveLaws.{SoFar}
use Rattle.schedule_pilot.proofs.safe_driving.run_on.Given as goal

abbrev pub invariant-steps : goal.invariant-steps
invariant-steps g l =
    SoFar l.initial.world (goal.F-post g l.pilot) l.entries l.events l.world l.rest l.made
    × IsCounted l.world.state l.counted.pending l.counted.under_way.items × AreEntries l.world.net l.rest × (l.made ≤ l.budget)

abbrev pub decreases-steps : goal.decreases-steps
decreases-steps g l = l.budget - l.made
