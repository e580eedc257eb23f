use Rattle.acyclic_numbering.specs.Heights.{IsLower}
use Rattle.acyclic_numbering.specs.declared.Edge.{Edge}
use Rattle.certificates.proofs.Chains.{AreUpTo}
use Rattle.evidence_store.proofs.safe.all_lower.Given as goal

abbrev pub invariant-loop-step : goal.invariant-loop-step
invariant-loop-step l = AreUpTo (λ (e : Edge). IsLower l.numbering e.from e.to) l.steps l.step-index
