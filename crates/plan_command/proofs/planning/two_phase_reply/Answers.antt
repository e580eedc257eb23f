use Rattle.command_base.specs.Updates.{meaning_of}
use Rattle.plan_command.proofs.NewPlanLaws.{two_certified}
use Rattle.plan_command.proofs.planning.two_phase_reply.Goals as goal

pub new_plan_reply-requires-clause-certified : goal.new_plan_reply-requires-clause-certified
new_plan_reply-requires-clause-certified c = two_certified (meaning_of c.args.files.now) c.in-Ok.plan c.args.tried.now c.in-Ok.ensures.plan c.in-Ok.ensures.certified c.requires.good
