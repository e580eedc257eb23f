use Rattle.round_messages.proofs.BySwitch.{round_alone}
use Rattle.round_messages.proofs.laws.rounds_are_sent_in_turn.Goals as goal

pub returns : goal.returns
returns c = round_alone
