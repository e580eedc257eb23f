use Rattle.std.proofs.Common.{◌≡◌, length}
use Rattle.update_driver.specs.Inside.{AreEmpty}
use Rattle.update_driver.proofs.turns.no_turns.Given as goal

abbrev pub invariant-loop-number : goal.invariant-loop-number
invariant-loop-number l = record {
  empty : AreEmpty l.turns.items;
  count : length l.turns.items ≡ l._number;
}
