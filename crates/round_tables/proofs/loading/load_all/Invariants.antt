use Rattle.std.proofs.Common.{◌≡◌, ◌≤◌, length}
use Rattle.net_base.specs.declared.ids.SwitchId.{SwitchId}
use Rattle.round_tables.specs.PreparedTables.{mix_at}
use Rattle.round_tables.specs.Loading.{AreAlone, IsLoadedTo}
use Rattle.round_tables.proofs.loading.load_all.Given as goal

abbrev pub invariant-loop-i : goal.invariant-loop-i
invariant-loop-i l = record {
  mixes : length l.mixes ≡ length l.initial.mixes;
  touched : length l.touched ≡ length l.initial.touched;
  alone : AreAlone l.tables l.i l.touched l.mixes;
  so_far : IsLoadedTo l.tables l.lists l.i l.mixes l.unclear;
  room : (s : SwitchId) → (mix_at l.initial.mixes s).room ≤ (mix_at l.mixes s).room;
}
