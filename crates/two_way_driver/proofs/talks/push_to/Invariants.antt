use Rattle.std.proofs.Common.{◌≡◌, ◌++◌, drop}
use Rattle.two_way_driver.specs.Drivers.{sends, is_to}
use Rattle.two_way_driver.proofs.talks.push_to.Given as goal

abbrev pub invariant-loop-message : goal.invariant-loop-message
invariant-loop-message l = l.said.items ++ sends (is_to l.switch) (drop l.message-index l.messages) ≡ l.initial.said.items ++ sends (is_to l.switch) l.messages
