use Rattle.openflow10.proofs.MessageLaws.{text-held}
use Rattle.openflow10.proofs.laws.fields_stand_at_their_offsets.Goals as goal

pub returns-clause-holds : goal.returns-clause-holds
returns-clause-holds c = λ m rest h. text-held m rest h
