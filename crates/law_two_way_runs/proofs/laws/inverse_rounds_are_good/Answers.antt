use Rattle.law_two_way_runs.proofs.Inverses.{inverse_is_good}
use Rattle.law_two_way_runs.proofs.laws.inverse_rounds_are_good.Goals as goal

pub returns : goal.returns
returns c = λ u good old k less. inverse_is_good u good old k less
