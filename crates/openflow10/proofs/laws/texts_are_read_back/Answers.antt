use Rattle.openflow10.proofs.MessageLaws.{begins}
use Rattle.openflow10.proofs.laws.texts_are_read_back.Goals as goal

pub returns : goal.returns
returns c = λ m rest h. begins m rest h
