use Rattle.openflow10.proofs.MessageLaws.{one_text}
use Rattle.openflow10.proofs.laws.each_message_has_its_own_text.Goals as goal

pub returns : goal.returns
returns c = λ m n xs ys h k e. one_text m n xs ys h k e
