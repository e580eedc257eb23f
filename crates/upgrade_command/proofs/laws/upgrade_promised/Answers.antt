use Rattle.upgrade_command.proofs.UpgradeLaws.{promised}
use Rattle.upgrade_command.proofs.laws.upgrade_promised.Goals as goal

pub returns : goal.returns
returns c = λ files names old new result answered. promised files names old new result answered
