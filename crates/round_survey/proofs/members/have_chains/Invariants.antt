use Rattle.round_survey.proofs.members.have_chains.Given as goal

abbrev pub invariant-loop-member : goal.invariant-loop-member
invariant-loop-member l = Unit {0}
