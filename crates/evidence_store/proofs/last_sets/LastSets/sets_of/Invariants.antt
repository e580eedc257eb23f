use Rattle.evidence_store.proofs.last_sets.LastSets.sets_of.Given as goal

abbrev pub invariant-loop-i : goal.invariant-loop-i
invariant-loop-i l = Unit {0}
