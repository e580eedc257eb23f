use Rattle.import_command.proofs.ImportLaws.{promised}
use Rattle.import_command.proofs.laws.import_promised.Goals as goal

pub returns : goal.returns
returns c = λ files names old new result answered. promised files names old new result answered
