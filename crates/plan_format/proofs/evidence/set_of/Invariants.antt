use Rattle.std.proofs.Common.{◌≡◌, take}
use Rattle.plan_format.proofs.evidence.set_of.Given as goal

abbrev pub invariant-loop-switch : goal.invariant-loop-switch
invariant-loop-switch l = l.set ≡ take l.switch-index l.switches
