use Rattle.std.proofs.Common.{◌<◌}
use Rattle.net_base.specs.declared.ids.SwitchId.{SwitchId}
use Rattle.acyclic_numbering.specs.Heights.{IsEdge}
use Rattle.acyclic_numbering.specs.Numbered.{IsOpen, IsNumberable}
use Rattle.acyclic_numbering.proofs.next_ready.Given as goal

abbrev pub invariant-loop-i : goal.invariant-loop-i
invariant-loop-i l = (s : SwitchId) → s.0 < l.i → IsOpen l.pending s → ¬ IsNumberable (IsEdge l.edges) l.pending s
