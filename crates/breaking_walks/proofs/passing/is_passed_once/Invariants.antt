use Rattle.breaking_walks.proofs.passing.is_passed_once.Given as goal

abbrev pub invariant-loop : goal.invariant-loop
invariant-loop l = Unit {0}
