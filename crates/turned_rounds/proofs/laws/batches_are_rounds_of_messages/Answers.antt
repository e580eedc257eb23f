use Rattle.turned_rounds.proofs.NumberLaws.{batch_is}
use Rattle.turned_rounds.proofs.laws.batches_are_rounds_of_messages.Goals as goal

pub returns : goal.returns
returns c = λ net k x round few. batch_is net k x round few
