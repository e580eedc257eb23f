use Rattle.std.proofs.Common.{◌≤◌, ◌-◌}
use Rattle.schedule_pilot.specs.Agendas.{IsAgenda}
use Rattle.schedule_pilot.specs.Ends.{AreEntries}
use Rattle.schedule_pilot.proofs.DriveLaws.{SoFar}
use Rattle.schedule_pilot.proofs.driving.run_on.Given as goal

abbrev pub invariant-steps : goal.invariant-steps
invariant-steps g l =
    SoFar l.initial.world (goal.F-post g l.pilot) l.entries l.events l.world l.rest l.made
    × IsAgenda l.world.state l.agenda.pending.items l.agenda.under_way.items × AreEntries l.world.net l.rest × (l.made ≤ l.budget)

abbrev pub decreases-steps : goal.decreases-steps
decreases-steps g l = l.budget - l.made
