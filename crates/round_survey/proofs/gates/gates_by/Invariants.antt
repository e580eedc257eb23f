use Rattle.round_survey.specs.Gates.{AreGates}
use Rattle.round_survey.proofs.gates.gates_by.Given as goal

abbrev pub invariant-loop-switch : goal.invariant-loop-switch
invariant-loop-switch l = AreGates l.numbers l.set l.walk
