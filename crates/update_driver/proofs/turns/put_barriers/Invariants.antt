use Rattle.std.proofs.Common.{◌≡◌, ◌++◌, length, take, drop}
use Rattle.update_driver.specs.Inside.{asked_turns}
use Rattle.update_driver.proofs.turns.put_barriers.Given as goal

abbrev pub invariant-loop-number : goal.invariant-loop-number
invariant-loop-number l = record {
  count : length l.turns.items ≡ length l.initial.turns.items;
  asked : take l.number l.turns.items ++ asked_turns l.xid l.changed l.number (drop l.number l.turns.items) ≡ asked_turns l.first l.changed 0 l.initial.turns.items;
}
