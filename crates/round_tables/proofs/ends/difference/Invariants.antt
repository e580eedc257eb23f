use Rattle.std.proofs.Common.{◌<◌}
use Rattle.net_base.specs.declared.ids.SwitchId.{SwitchId}
use Rattle.round_tables.specs.Ends.{AreSameAt}
use Rattle.round_tables.proofs.ends.difference.Given as goal

abbrev pub invariant-loop-i : goal.invariant-loop-i
invariant-loop-i l = (s : SwitchId) → s.0 < l.i → AreSameAt l.tables l.others s
