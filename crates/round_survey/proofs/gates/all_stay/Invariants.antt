use Rattle.acyclic_numbering.specs.declared.Edge.{Edge}
use Rattle.certificates.proofs.Chains.{AreUpTo}
use Rattle.round_survey.specs.Gates.{StaysAbove}
use Rattle.round_survey.proofs.gates.all_stay.Given as goal

abbrev pub invariant-loop-edge : goal.invariant-loop-edge
invariant-loop-edge l = AreUpTo (λ (e : Edge). StaysAbove l.numbers l.gate e.from e.to) l.steps l.edge-index
