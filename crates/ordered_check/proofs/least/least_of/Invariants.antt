use Rattle.std.proofs.Common.{take}
use Rattle.net_base.specs.declared.ids.SwitchId.{SwitchId}
use Rattle.check_reasons.specs.Least.{IsLeastOf}
use Rattle.ordered_check.proofs.LeastLaws.{AtSome}
use Rattle.ordered_check.proofs.least.least_of.Given as goal

abbrev pub invariant-loop-s : goal.invariant-loop-s
invariant-loop-s l = IsLeastOf (AtSome (λ (s : SwitchId). Unit {0}) (λ s. s) (take l.s-index l.switches)) l.least
