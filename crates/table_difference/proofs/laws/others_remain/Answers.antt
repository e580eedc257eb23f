use Rattle.table_difference.proofs.WithoutLaws.{unique_tables, remaining_without}
use Rattle.table_difference.proofs.laws.others_remain.Goals as goal

pub returns : goal.returns
returns c = λ now new now_are new_are front back d are. remaining_without now new (unique_tables now now_are) (unique_tables new new_are) front back d are
