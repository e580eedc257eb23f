use Rattle.std.proofs.Common.{◌≡◌, ◌+◌, ◌<◌, length, take}
use Rattle.net_base.specs.declared.ids.SwitchId.{SwitchId}
use Rattle.update_model.specs.Changes.{changes_at}
use Rattle.round_tables.specs.PreparedTables.{limit_at}
use Rattle.round_tables.specs.Loading.{insert_count}
use Rattle.round_tables.proofs.room.add_inserts.Given as goal

abbrev pub invariant-loop-change : goal.invariant-loop-change
invariant-loop-change l =
    (s : SwitchId) → s.0 < length l.initial.counts → limit_at l.counts s ≡ limit_at l.initial.counts s + insert_count (changes_at s (take l.change-index l.round))
