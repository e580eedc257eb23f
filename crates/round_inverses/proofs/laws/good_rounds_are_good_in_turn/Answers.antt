use Rattle.round_inverses.proofs.InverseLaws.{good_from}
use Rattle.round_inverses.proofs.laws.good_rounds_are_good_in_turn.Goals as goal

pub returns : goal.returns
returns c = λ u good. good_from u.old u.rounds good
