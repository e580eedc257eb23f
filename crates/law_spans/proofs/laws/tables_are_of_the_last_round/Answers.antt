use Rattle.law_spans.proofs.Journeys.{tables_in_runs}
use Rattle.law_spans.proofs.laws.tables_are_of_the_last_round.Goals as goal

pub returns : goal.returns
returns c = λ u waits good. tables_in_runs u good waits
