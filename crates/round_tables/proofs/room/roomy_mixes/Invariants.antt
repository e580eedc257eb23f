use Rattle.std.proofs.Common.{◌≡◌, ◌+◌, ◌<◌, ◌≤◌, length}
use Rattle.std.specs.Prelude.{slice_index_or}
use Rattle.net_base.specs.declared.ids.SwitchId.{SwitchId}
use Rattle.round_tables.specs.PreparedTables.{limit_at, mix_at}
use Rattle.round_tables.proofs.room.roomy_mixes.Given as goal

abbrev pub invariant-loop-i : goal.invariant-loop-i
invariant-loop-i l =
    (length l.mixes.items ≡ l.i) × ((s : SwitchId) → s.0 < l.i → limit_at l.limits s + slice_index_or l.counts s.0 0 ≤ (mix_at l.mixes.items s).room)
