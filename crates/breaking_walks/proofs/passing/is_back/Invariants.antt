use Rattle.breaking_walks.proofs.passing.is_back.Given as goal

abbrev pub invariant-loop-step : goal.invariant-loop-step
invariant-loop-step l = Unit {0}
