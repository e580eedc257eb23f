use Rattle.law_spans.proofs.Single.{certified_as_before}
use Rattle.law_spans.proofs.Onward.{runs_as_before, states_as_before}
use Rattle.law_spans.proofs.laws.one_round_spans_are_as_before.Goals as goal

pub returns-clause-certified : goal.returns-clause-certified
returns-clause-certified c = certified_as_before

pub returns-clause-runs : goal.returns-clause-runs
returns-clause-runs c = runs_as_before

pub returns-clause-states : goal.returns-clause-states
returns-clause-states c = states_as_before
