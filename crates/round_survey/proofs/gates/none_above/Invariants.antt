use Rattle.net_base.specs.declared.ids.SwitchId.{SwitchId}
use Rattle.acyclic_numbering.specs.Heights.{IsLower}
use Rattle.certificates.proofs.Chains.{AreUpTo}
use Rattle.round_survey.proofs.gates.none_above.Given as goal

abbrev pub invariant-loop-switch : goal.invariant-loop-switch
invariant-loop-switch l = AreUpTo (λ (s : SwitchId). ¬ IsLower l.numbers s l.gate) l.switches l.switch-index
