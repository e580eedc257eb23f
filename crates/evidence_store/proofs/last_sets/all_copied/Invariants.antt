use Rattle.std.proofs.Common.{◌≡◌, take}
use Rattle.evidence_store.proofs.last_sets.all_copied.Given as goal

abbrev pub invariant-loop-set : goal.invariant-loop-set
invariant-loop-set l = l.copies ≡ take l.set-index l.sets
