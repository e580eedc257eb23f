use Rattle.std.proofs.Common.{take}
use Rattle.net_base.proofs.SetLaws.{IsSetOf}
use Rattle.net_base.proofs.switch_set.SwitchSet.of.Given as goal

abbrev pub invariant-loop-switch : goal.invariant-loop-switch
invariant-loop-switch l = IsSetOf l.set (take l.switch-index l.switches)
