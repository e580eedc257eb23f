use Rattle.std.proofs.Common.{◌≡◌, length}
use Rattle.net_base.specs.Members.{IsIn}
use Rattle.acyclic_numbering.specs.Heights.{IsEdge}
use Rattle.acyclic_numbering.specs.Numbered.{AreReached}
use Rattle.acyclic_numbering.specs.declared.Edge.{Edge}
use Rattle.acyclic_numbering.proofs.raise_once.Given as goal

abbrev pub invariant-loop-edge : goal.invariant-loop-edge
invariant-loop-edge l = AreReached (IsEdge l.edges) l.numbers × (length l.numbers ≡ length l.initial.numbers) × ((e : Edge) → IsIn e l.edge-iterator.iter.rest.now → IsIn e l.edges)
