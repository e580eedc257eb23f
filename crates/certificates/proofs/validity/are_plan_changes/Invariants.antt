use Rattle.update_model.specs.Ranges.{IsPlanChange}
use Rattle.certificates.proofs.Chains.{AreUpTo}
use Rattle.certificates.proofs.validity.are_plan_changes.Given as goal

abbrev pub invariant-loop-change : goal.invariant-loop-change
invariant-loop-change l = AreUpTo (IsPlanChange l.net) l.changes l.change-index
