use Rattle.std.proofs.Common.{◌≡◌, ◌≢◌, ◌⊎◌, ◌<◌, ◌≤◌, ℕ, true, length}
use Rattle.demands.specs.Sets.{is_in, set_at}
use Rattle.demands.proofs.class_sets.put_in_range.Given as goal

abbrev pub invariant-loop-atom : goal.invariant-loop-atom
invariant-loop-atom l = record {
  count : length l.sets.items ≡ length l.initial.sets.items;
  begun : l.fn.range.from ≤ l.atom;
  within : l.atom ≤ l.fn.range.to;
  there : (a : ℕ) → l.fn.range.from ≤ a → a < l.atom → is_in (set_at l.sets.items a) l.n ≡ true;
  others : (a i : ℕ) → ((a < l.fn.range.from) ⊎ (l.atom ≤ a)) ⊎ (i ≢ l.n) → is_in (set_at l.sets.items a) i ≡ is_in (set_at l.initial.sets.items a) i;
}
