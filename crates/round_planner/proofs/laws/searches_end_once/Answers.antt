use Rattle.round_planner.proofs.OneSearch.{one_ordered, one_stuck, apart}
use Rattle.round_planner.proofs.laws.searches_end_once.Goals as goal

pub returns-clause-ordered : goal.returns-clause-ordered
returns-clause-ordered c = λ to old changes others. one_ordered to old changes others

pub returns-clause-stuck : goal.returns-clause-stuck
returns-clause-stuck c = λ to old changes others. one_stuck to old changes others

pub returns-clause-apart : goal.returns-clause-apart
returns-clause-apart c = λ to old changes others. apart to old changes others
