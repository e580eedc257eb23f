use Rattle.std.proofs.Common.{take}
use Rattle.net_base.specs.declared.ids.SwitchId.{SwitchId}
use Rattle.waypoint_evidence.specs.Befores.{Holds}
use Rattle.check_reasons.specs.Least.{IsLeastOf}
use Rattle.ordered_check.proofs.LeastLaws.{AtSome}
use Rattle.ordered_check.proofs.least.least_held.Given as goal

abbrev pub invariant-loop-s : goal.invariant-loop-s
invariant-loop-s l = IsLeastOf (AtSome (λ (s : SwitchId). Holds l.set s) (λ s. s) (take l.s-index l.switches)) l.least
