use Rattle.trace_command.proofs.TraceLaws.{promised}
use Rattle.trace_command.proofs.laws.trace_promised.Goals as goal

pub returns : goal.returns
returns c = λ files names old new result answered. promised files names old new result answered
