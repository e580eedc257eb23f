use Rattle.std.proofs.Common.{◌≡◌, take}
use Rattle.evidence_store.specs.Numbers.{AreNumbered}
use Rattle.evidence_store.proofs.uses.add_befores.Given as goal

abbrev pub invariant-loop-set : goal.invariant-loop-set
invariant-loop-set l = record {
  numbers : AreNumbered l.fn.befores (take l.set-index l.sets) l.numbers l.befores;
  keys : l.keys ≡ l.befores;
}
