use Rattle.std.proofs.Common.{◌≡◌, ◌++◌, drop}
use Rattle.two_way_driver.specs.Drivers.{sends, is_to_open}
use Rattle.two_way_driver.proofs.talks.push_open.Given as goal

abbrev pub invariant-loop-message : goal.invariant-loop-message
invariant-loop-message l = l.said.items ++ sends (is_to_open l.peers) (drop l.message-index l.messages) ≡ l.initial.said.items ++ sends (is_to_open l.peers) l.messages
