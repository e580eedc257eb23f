use Rattle.config_command.proofs.ConfigLaws.{promised}
use Rattle.config_command.proofs.laws.config_promised.Goals as goal

pub returns : goal.returns
returns c = λ files names old new result answered. promised files names old new result answered
