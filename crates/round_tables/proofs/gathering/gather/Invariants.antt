use Rattle.std.proofs.Common.{◌≡◌, ◌<◌, true, length, take}
use Rattle.net_base.specs.declared.ids.SwitchId.{SwitchId}
use Rattle.update_model.specs.Changes.{changes_at}
use Rattle.round_tables.specs.PreparedTables.{list_at}
use Rattle.round_tables.specs.Loading.{AreSwitchesBelow}
use Rattle.round_tables.proofs.gathering.gather.Given as goal

abbrev pub invariant-loop-change : goal.invariant-loop-change
invariant-loop-change l = record {
  count : length l.lists ≡ length l.initial.lists;
  gathered : (s : SwitchId) → s.0 < length l.lists → (list_at l.lists s).changes ≡ changes_at s (take l.change-index l.round);
  within : l.are_within ≡ true → AreSwitchesBelow (length l.lists) (take l.change-index l.round);
  room : (s : SwitchId) → (list_at l.lists s).room ≡ (list_at l.initial.lists s).room;
}
