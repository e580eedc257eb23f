use Rattle.law_wire.proofs.Ends.{certified_safe}
use Rattle.law_wire.proofs.laws.safe_on_the_wire.Goals as goal

pub returns : goal.returns
returns c = λ t evidence old_user new_user certified turnable. certified_safe t evidence old_user new_user certified turnable
