use Rattle.law_wire.proofs.Ends.{certified_tables}
use Rattle.law_wire.proofs.laws.tables_on_the_wire.Goals as goal

pub returns : goal.returns
returns c = λ t evidence old_user new_user certified turnable. certified_tables t evidence old_user new_user certified turnable
