use Rattle.std.proofs.Common.{◌≡◌, ℕ, ◌<◌, ◌≤◌}
use Rattle.std.specs.Prelude.{slice_index_or, max}
use Rattle.round_tables.proofs.room.raise.Given as goal

abbrev pub invariant-loop-i : goal.invariant-loop-i
invariant-loop-i l = record {
  raised : (j : ℕ) → j < l.i → slice_index_or l.numbers j 0 ≡ max (slice_index_or l.initial.numbers j 0) (slice_index_or l.others j 0);
  rest : (j : ℕ) → l.i ≤ j → slice_index_or l.numbers j 0 ≡ slice_index_or l.initial.numbers j 0;
}
