use Rattle.std.proofs.Common.{subst}
use Rattle.topology.specs.Networks.{IsNetwork}
use Rattle.schedule_pilot.proofs.DriveLaws.{ends_unblocked, ends_finished}
use Rattle.schedule_pilot.proofs.safe_driving.drive_safely.Given.{F-post}
use Rattle.schedule_pilot.proofs.safe_driving.drive_safely.Goals as goal

pub returns-clause-unblocked : goal.returns-clause-unblocked
returns-clause-unblocked g c =
    ends_unblocked c.args.world (F-post g c.args.pilot.now) c.args.entries.now (subst IsNetwork c.net.ensures c.keeps_rules.ensures) c.requires.safely c.requires.entries c.run_on.new.events
    c.in_ok-ending.ensures.run.driven c.args.budget c.in_ok-ending.ending c.in_ok-ending.ensures.ends

pub returns-clause-finished : goal.returns-clause-finished
returns-clause-finished g c =
    ends_finished c.args.world (F-post g c.args.pilot.now) c.args.entries.now (subst IsNetwork c.net.ensures c.keeps_rules.ensures) c.requires.safely c.requires.entries c.run_on.new.events
    c.in_ok-ending.ensures.run.driven c.args.budget c.in_ok-ending.ending c.in_ok-ending.ensures.ends
