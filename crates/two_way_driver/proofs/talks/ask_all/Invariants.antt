use Rattle.std.proofs.Common.{◌≡◌, ◌++◌, length, take, drop}
use Rattle.two_way_driver.specs.Drivers.{asked_from}
use Rattle.two_way_driver.proofs.talks.ask_all.Given as goal

abbrev pub invariant-loop-number : goal.invariant-loop-number
invariant-loop-number l = record {
  count : length l.peers.items ≡ length l.initial.peers.items;
  asked : take l.number l.peers.items ++ asked_from l.xid l.round l.number (drop l.number l.peers.items) ≡ asked_from l.first l.round 0 l.initial.peers.items;
}
