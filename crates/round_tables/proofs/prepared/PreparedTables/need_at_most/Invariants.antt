use Rattle.std.proofs.Common.{◌<◌, ◌≤◌}
use Rattle.net_base.specs.declared.ids.SwitchId.{SwitchId}
use Rattle.update_model.specs.Mixtures.{need_of}
use Rattle.round_tables.proofs.prepared.PreparedTables.need_at_most.Given as goal

abbrev pub invariant-loop-i : goal.invariant-loop-i
invariant-loop-i l = (s : SwitchId) → s.0 < l.i → need_of l.update l.k s ≤ l.most
