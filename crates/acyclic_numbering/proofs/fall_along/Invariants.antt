use Rattle.std.proofs.Common.{ℕ, ◌<◌, get_or}
use Rattle.acyclic_numbering.specs.Heights.{IsLower}
use Rattle.acyclic_numbering.specs.declared.Edge.{Edge}
use Rattle.acyclic_numbering.proofs.fall_along.Given as goal

abbrev pub invariant-loop-edge : goal.invariant-loop-edge
invariant-loop-edge l = (k : ℕ) (d : Edge) → k < l.edge-index → IsLower l.numbers (get_or l.edges k d).from (get_or l.edges k d).to
