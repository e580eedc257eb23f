use Rattle.round_inverses.proofs.InverseLaws.{inverse_count, inverse_at, same_changed}
use Rattle.round_inverses.proofs.laws.each_takes_its_round_back.Goals as goal

pub returns-clause-count : goal.returns-clause-count
returns-clause-count c = λ u. inverse_count u.old u.rounds

pub returns-clause-inverse : goal.returns-clause-inverse
returns-clause-inverse c = λ u k less. inverse_at u.old u.rounds k less

pub returns-clause-switches : goal.returns-clause-switches
returns-clause-switches c = λ u k s. same_changed u.old u.rounds k s
