use Rattle.std.proofs.Common.{◌≡◌, ◌<◌, ◌≤◌, length}
use Rattle.std.specs.Prelude.{slice_index_or}
use Rattle.net_base.specs.declared.ids.SwitchId.{SwitchId}
use Rattle.round_tables.specs.PreparedTables.{list_at}
use Rattle.round_tables.proofs.room.roomy_changes.Given as goal

abbrev pub invariant-loop-count : goal.invariant-loop-count
invariant-loop-count l =
    (length l.lists.items ≡ l.count-index) × ((s : SwitchId) → s.0 < l.count-index → slice_index_or l.counts s.0 0 ≤ (list_at l.lists.items s).room)
