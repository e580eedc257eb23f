use Rattle.std.proofs.Common.{◌≡◌, ◌++◌, drop}
use Rattle.two_way_driver.specs.Drivers.{change_notes, is_dead_unmade}
use Rattle.two_way_driver.proofs.talks.push_dead_changes.Given as goal

abbrev pub invariant-loop-number : goal.invariant-loop-number
invariant-loop-number l =
    l.said.items ++ change_notes (is_dead_unmade l.peers l.in_force) l.number (drop l.number l.round) ≡ l.initial.said.items ++ change_notes (is_dead_unmade l.peers l.in_force) 0 l.round
