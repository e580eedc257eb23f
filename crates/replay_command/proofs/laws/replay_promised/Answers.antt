use Rattle.replay_command.proofs.ReplayLaws.{promised}
use Rattle.replay_command.proofs.laws.replay_promised.Goals as goal

pub returns : goal.returns
returns c = λ files names old new result answered. promised files names old new result answered
