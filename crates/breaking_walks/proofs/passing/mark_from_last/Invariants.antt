use Rattle.breaking_walks.proofs.passing.mark_from_last.Given as goal

abbrev pub invariant-loop-step : goal.invariant-loop-step
invariant-loop-step l = Unit {0}
