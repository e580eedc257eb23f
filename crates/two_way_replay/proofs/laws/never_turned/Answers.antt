use Rattle.two_way_replay.proofs.NeverTurned.{course_runs, course_states, course_forward, course_none_back}
use Rattle.two_way_replay.proofs.laws.never_turned.Goals as goal

pub returns-clause-runs : goal.returns-clause-runs
returns-clause-runs c = course_runs

pub returns-clause-states : goal.returns-clause-states
returns-clause-states c = course_states

pub returns-clause-forward : goal.returns-clause-forward
returns-clause-forward c = course_forward

pub returns-clause-none_back : goal.returns-clause-none_back
returns-clause-none_back c = course_none_back
