use Rattle.std.proofs.Common.{◌≡◌, take}
use Rattle.demands.specs.Duties.{first_of_each}
use Rattle.demands.proofs.chains.each_once.Given as goal

abbrev pub invariant-loop-switch : goal.invariant-loop-switch
invariant-loop-switch l = l.kept.items ≡ first_of_each (take l.switch-index l.switches)
