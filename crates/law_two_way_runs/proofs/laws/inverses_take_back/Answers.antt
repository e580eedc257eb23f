use Rattle.law_two_way_runs.proofs.Inverses.{take_back}
use Rattle.law_two_way_runs.proofs.laws.inverses_take_back.Goals as goal

pub returns : goal.returns
returns c = take_back
