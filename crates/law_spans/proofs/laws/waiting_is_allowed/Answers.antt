use Rattle.law_spans.proofs.Onward.{waiting_is_allowed, same_state_after, two_way_safe, onward_safe}
use Rattle.law_spans.proofs.laws.waiting_is_allowed.Goals as goal

pub returns-clause-runs : goal.returns-clause-runs
returns-clause-runs c = waiting_is_allowed

pub returns-clause-states : goal.returns-clause-states
returns-clause-states c = same_state_after

pub returns-clause-both_ways : goal.returns-clause-both_ways
returns-clause-both_ways c = two_way_safe

pub returns-clause-onward : goal.returns-clause-onward
returns-clause-onward c = onward_safe
