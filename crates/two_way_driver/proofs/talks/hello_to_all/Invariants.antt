use Rattle.std.proofs.Common.{◌≡◌, ◌-◌, ◌++◌}
use Rattle.two_way_driver.specs.Drivers.{first_words}
use Rattle.two_way_driver.proofs.talks.hello_to_all.Given as goal

abbrev pub invariant-loop-number : goal.invariant-loop-number
invariant-loop-number l = l.said.items ++ first_words l.number (l.switches - l.number) ≡ first_words 0 l.switches
