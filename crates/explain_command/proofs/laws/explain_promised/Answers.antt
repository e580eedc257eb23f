use Rattle.explain_command.proofs.ExplainLaws.{promised}
use Rattle.explain_command.proofs.laws.explain_promised.Goals as goal

pub returns : goal.returns
returns c = λ files names old new result answered. promised files names old new result answered
