use Rattle.check_command.proofs.CheckLaws.{promised}
use Rattle.check_command.proofs.laws.check_promised.Goals as goal

pub returns : goal.returns
returns c = λ files names old new result answered. promised files names old new result answered
