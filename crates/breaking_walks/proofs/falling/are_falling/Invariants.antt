use Rattle.acyclic_numbering.specs.Heights.{IsLower}
use Rattle.acyclic_numbering.specs.declared.Edge.{Edge}
use Rattle.certificates.proofs.Chains.{AreUpTo}
use Rattle.breaking_walks.proofs.falling.are_falling.Given as goal

abbrev pub invariant-loop-edge : goal.invariant-loop-edge
invariant-loop-edge l = AreUpTo (λ (e : Edge). IsLower l.numbers e.from e.to) l.edges l.edge-index
