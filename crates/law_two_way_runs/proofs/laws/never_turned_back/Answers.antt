use Rattle.law_two_way_runs.proofs.NeverBack.{onward_runs, onward_states}
use Rattle.law_two_way_runs.proofs.laws.never_turned_back.Goals as goal

pub returns-clause-runs : goal.returns-clause-runs
returns-clause-runs c = onward_runs

pub returns-clause-states : goal.returns-clause-states
returns-clause-states c = onward_states
