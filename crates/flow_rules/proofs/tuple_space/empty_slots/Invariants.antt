use Rattle.std.proofs.Common.{◌≡◌, ◌<◌, ℕ, length, get_or}
use Rattle.flow_rules.proofs.tuple_space.empty_slots.Given as goal

abbrev pub invariant-loop-slot : goal.invariant-loop-slot
invariant-loop-slot l = record {
  count : length l.heads.items ≡ length l.initial.heads.items;
  empty : (j : ℕ) → j < l.slot → get_or l.heads.items j 0 ≡ 0;
}
