use Rattle.two_phase_check.proofs.InForceLaws.{HaveBegun}
use Rattle.two_phase_check.proofs.labels.begun_by.Given as goal

abbrev pub invariant-loop-i : goal.invariant-loop-i
invariant-loop-i l = HaveBegun l.picks l.round l.i
