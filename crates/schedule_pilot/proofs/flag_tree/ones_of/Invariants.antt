use Rattle.std.proofs.Common.{◌≡◌, take, map}
use Rattle.schedule_pilot.specs.Counts.{one_if_on}
use Rattle.schedule_pilot.proofs.flag_tree.ones_of.Given as goal

abbrev pub invariant-loop-on : goal.invariant-loop-on
invariant-loop-on l = l.ones.items ≡ map one_if_on (take l.on-index l.flags)
