use Rattle.std.proofs.Common.{◌≡◌, ◌<◌, ◌≤◌, length, take}
use Rattle.std.specs.Prelude.{slice_index_or}
use Rattle.net_base.specs.declared.ids.SwitchId.{SwitchId}
use Rattle.update_model.specs.Changes.{changes_at}
use Rattle.round_tables.proofs.room.count_round.Given as goal

abbrev pub invariant-loop-change : goal.invariant-loop-change
invariant-loop-change l = record {
  counted : (s : SwitchId) → s.0 < length l.initial.counts → slice_index_or l.counts s.0 0 ≡ length (changes_at s (take l.change-index l.round));
  few : (s : SwitchId) → s.0 < length l.initial.counts → slice_index_or l.counts s.0 0 ≤ l.change-index;
}
