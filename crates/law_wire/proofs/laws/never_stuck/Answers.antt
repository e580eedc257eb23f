use Rattle.law_wire.proofs.Ends.{certified_never_stuck}
use Rattle.law_wire.proofs.laws.never_stuck.Goals as goal

pub returns : goal.returns
returns c = λ t evidence old_user new_user certified turnable. certified_never_stuck t evidence old_user new_user certified turnable
