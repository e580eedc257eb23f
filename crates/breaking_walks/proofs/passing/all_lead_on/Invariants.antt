use Rattle.certificates.proofs.Chains.{AreUpTo}
use Rattle.breaking_walks.specs.PlaceSteps.{LeadsOn}
use Rattle.breaking_walks.proofs.passing.all_lead_on.Given as goal

abbrev pub invariant-loop-step : goal.invariant-loop-step
invariant-loop-step l = AreUpTo (LeadsOn l.marks l.switch) l.steps l.step-index
