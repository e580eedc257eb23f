use Rattle.std.proofs.Common.{◌≡◌, ◌⊎◌, ℕ, ◌+◌, ◌<◌, get_or}
use Rattle.net_base.specs.declared.ids.SwitchId.{SwitchId}
use Rattle.acyclic_numbering.specs.Heights.{IsEdge, number_of}
use Rattle.acyclic_numbering.specs.declared.Edge.{Edge}
use Rattle.acyclic_numbering.proofs.next_number.Given as goal

abbrev pub invariant-loop-edge : goal.invariant-loop-edge
invariant-loop-edge l =
    ((k : ℕ) (d : Edge) → k < l.edge-index → (get_or l.edges k d).from ≡ l.s → number_of l.numbers (get_or l.edges k d).to < l.number)
    × ((l.number ≡ 0) ⊎ ((t : SwitchId) × IsEdge l.edges l.s t × (l.number ≡ number_of l.numbers t + 1)))
