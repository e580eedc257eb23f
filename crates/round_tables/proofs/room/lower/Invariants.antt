use Rattle.std.proofs.Common.{◌≡◌, ◌<◌, ◌≤◌}
use Rattle.std.specs.Prelude.{min}
use Rattle.net_base.specs.declared.ids.SwitchId.{SwitchId}
use Rattle.topology.specs.Networks.{capacity_of}
use Rattle.round_tables.specs.PreparedTables.{limit_at}
use Rattle.round_tables.proofs.room.lower.Given as goal

abbrev pub invariant-loop-i : goal.invariant-loop-i
invariant-loop-i l = record {
  lowered : (s : SwitchId) → s.0 < l.i → limit_at l.limits s ≡ min (limit_at l.initial.limits s) (capacity_of l.net s);
  rest : (s : SwitchId) → l.i ≤ s.0 → limit_at l.limits s ≡ limit_at l.initial.limits s;
}
