use Rattle.demands.specs.Sets.{IsSetBelow, speaks_of_entry}
use Rattle.demands.proofs.class_sets.EntrySet.of.Given as goal

abbrev pub invariant-loop-n : goal.invariant-loop-n
invariant-loop-n l = IsSetBelow l.n l.demands (λ d. speaks_of_entry d l.entry) l.set.words
