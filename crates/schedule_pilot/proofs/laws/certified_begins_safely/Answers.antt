use Rattle.certificates.specs.Laws.{task_of}
use Rattle.schedule_pilot.proofs.PlanLaws.{begins_safely}
use Rattle.schedule_pilot.proofs.laws.certified_begins_safely.Goals as goal

pub returns : goal.returns
returns c =
    begins_safely (task_of c.args.net.now c.args.old.now c.args.new.now c.args.demands.now c.args.plan.now) c.requires.old c.requires.new c.args.plan.now.evidence
