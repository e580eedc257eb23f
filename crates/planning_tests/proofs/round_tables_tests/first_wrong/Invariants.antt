use Rattle.round_tables.specs.Trials.{IsBetweenTrials}
use Rattle.planning_tests.proofs.round_tables_tests.first_wrong.Given as goal

abbrev pub invariant-loop-i : goal.invariant-loop-i
invariant-loop-i g l = IsBetweenTrials l.net l.trial
