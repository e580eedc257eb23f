use Rattle.std.proofs.Common.{◌≡◌, replicate}
use Rattle.two_way_driver.specs.Peers.{first_peer}
use Rattle.two_way_driver.proofs.talks.first_peers.Given as goal

abbrev pub invariant-loop-number : goal.invariant-loop-number
invariant-loop-number l = l.peers.items ≡ replicate l._number first_peer
