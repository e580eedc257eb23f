use Rattle.std.proofs.Common.{◌≡◌, ◌<◌, ◌≤◌, ℕ, length, slice_index_or, bit_and}
use Rattle.demands.proofs.sets.DemandSet.and.Given as goal

abbrev pub invariant-loop-n : goal.invariant-loop-n
invariant-loop-n l = record {
  count : length l.words ≡ 8;
  within : l.n ≤ 8;
  met : (i : ℕ) → i < l.n → slice_index_or l.words i 0 ≡ bit_and (slice_index_or l.self.words i 0) (slice_index_or l.other.words i 0);
}
