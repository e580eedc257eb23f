use Rattle.emit_command.proofs.EmitLaws.{promised}
use Rattle.emit_command.proofs.laws.emit_promised.Goals as goal

pub returns : goal.returns
returns c = λ files names old new result answered. promised files names old new result answered
