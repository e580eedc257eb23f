use Rattle.plan_command.proofs.PlannedLaws.{promised}
use Rattle.plan_command.proofs.laws.plan_promised.Goals as goal

pub returns : goal.returns
returns c = λ files names old new result answered. promised files names old new result c.searches_end_once.ensures.apart c.searches_end_once.ensures.stuck answered
