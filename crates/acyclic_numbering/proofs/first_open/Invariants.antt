use Rattle.std.proofs.Common.{◌<◌}
use Rattle.net_base.specs.declared.ids.SwitchId.{SwitchId}
use Rattle.acyclic_numbering.specs.Numbered.{IsOpen}
use Rattle.acyclic_numbering.proofs.first_open.Given as goal

abbrev pub invariant-loop-i : goal.invariant-loop-i
invariant-loop-i l = (s : SwitchId) → s.0 < l.i → ¬ IsOpen l.pending s
