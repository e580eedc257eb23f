use Rattle.std.proofs.Common.{take}
use Rattle.acyclic_numbering.specs.Heights.{IsLower}
use Rattle.acyclic_numbering.specs.declared.Edge.{Edge}
use Rattle.check_reasons.specs.Least.{IsLeastOf}
use Rattle.ordered_check.proofs.LeastLaws.{AtSome}
use Rattle.ordered_check.proofs.least.least_not_lower.Given as goal

abbrev pub invariant-loop-step : goal.invariant-loop-step
invariant-loop-step l = IsLeastOf (AtSome (λ (e : Edge). ¬ IsLower l.numbering e.from e.to) (λ e. e.from) (take l.step-index l.steps)) l.least
