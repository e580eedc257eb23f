use Rattle.acyclic_numbering.specs.Heights.{IsEdge}
use Rattle.acyclic_numbering.specs.Numbered.{AreReached}
use Rattle.acyclic_numbering.proofs.raise_all.Given as goal

abbrev pub invariant-loop : goal.invariant-loop
invariant-loop l = AreReached (IsEdge l.edges) l.numbers
