use Rattle.switch_session.proofs.ByteLaws.{takes_front}
use Rattle.switch_session.proofs.laws.messages_are_taken_from_the_front.Goals as goal

pub returns : goal.returns
returns c = takes_front
