use Rattle.law_spans.proofs.Journeys.{timed_walks_in_runs, some_span_in_runs}
use Rattle.law_spans.proofs.laws.timed_walks.Goals as goal

pub returns-clause-under_way : goal.returns-clause-under_way
returns-clause-under_way c = λ u waits good. timed_walks_in_runs u good waits

pub returns-clause-each : goal.returns-clause-each
returns-clause-each c = λ u waits good some events run. some_span_in_runs u good waits events some run
