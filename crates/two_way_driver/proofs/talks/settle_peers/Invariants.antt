use Rattle.std.proofs.Common.{◌≡◌, ◌++◌, length, map, take, drop}
use Rattle.two_way_driver.specs.Peers.{settled_peer}
use Rattle.two_way_driver.proofs.talks.settle_peers.Given as goal

abbrev pub invariant-loop-number : goal.invariant-loop-number
invariant-loop-number l = record {
  count : length l.peers.items ≡ length l.initial.peers.items;
  settled : take l.number l.peers.items ++ map settled_peer (drop l.number l.peers.items) ≡ map settled_peer l.initial.peers.items;
}
