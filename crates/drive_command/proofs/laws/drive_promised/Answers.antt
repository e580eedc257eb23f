use Rattle.drive_command.proofs.DriveLaws.{promised}
use Rattle.drive_command.proofs.laws.drive_promised.Goals as goal

pub returns : goal.returns
returns c = λ files names old new result answered. promised files names old new result answered
