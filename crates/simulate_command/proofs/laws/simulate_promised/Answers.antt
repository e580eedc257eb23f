use Rattle.simulate_command.proofs.SimulateLaws.{promised}
use Rattle.simulate_command.proofs.laws.simulate_promised.Goals as goal

pub returns : goal.returns
returns c = λ files names old new result answered. promised files names old new result answered
