use Rattle.std.proofs.Common.{◌≡◌, ◌<◌, []}
use Rattle.net_base.specs.declared.ids.SwitchId.{SwitchId}
use Rattle.round_tables.specs.PreparedTables.{list_at}
use Rattle.round_tables.proofs.gathering.clear_all.Given as goal

abbrev pub invariant-loop-list : goal.invariant-loop-list
invariant-loop-list l = record {
  none : (s : SwitchId) → s.0 < l.list-index → (list_at l.lists s).changes ≡ [];
  room : (s : SwitchId) → (list_at l.lists s).room ≡ (list_at l.initial.lists s).room;
}
