use Rattle.std.proofs.Common.{◌≡◌, length}
use Rattle.dest_classes.specs.Classes.{atom_count}
use Rattle.demands.specs.Sets.{AreAtomSetsBelow}
use Rattle.demands.proofs.class_sets.atom_sets.Given as goal

abbrev pub invariant-loop-n : goal.invariant-loop-n
invariant-loop-n l = record {
  count : length l.sets.items ≡ atom_count l.classes;
  sets : AreAtomSetsBelow l.n l.demands l.classes l.sets.items;
}
