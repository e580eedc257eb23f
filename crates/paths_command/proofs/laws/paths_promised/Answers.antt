use Rattle.paths_command.proofs.PathsLaws.{promised}
use Rattle.paths_command.proofs.laws.paths_promised.Goals as goal

pub returns : goal.returns
returns c = λ files names old new result answered. promised files names old new result answered
