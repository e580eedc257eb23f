use Rattle.round_messages.proofs.BySwitch.{each_round}
use Rattle.round_messages.proofs.laws.each_switch_gets_its_changes.Goals as goal

pub returns : goal.returns
returns c = each_round
