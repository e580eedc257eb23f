use Rattle.std.proofs.Common.{◌≡◌, ◌<◌, ◌^◌, length}
use Rattle.std.specs.Prelude.{slice_index_or}
use Rattle.net_base.specs.declared.ids.SwitchId.{SwitchId}
use Rattle.round_tables.specs.Loading.{AreCounted}
use Rattle.round_tables.proofs.room.counts_of.Given as goal

abbrev pub invariant-loop-k : goal.invariant-loop-k
invariant-loop-k l = record {
  len : length l.most.items ≡ l.fn.switches;
  counts_len : length l.counts.items ≡ l.fn.switches;
  counted : AreCounted l.most.items l.k l.rounds;
  few : (s : SwitchId) → s.0 < l.fn.switches → slice_index_or l.most.items s.0 0 < 2 ^ 63;
}
