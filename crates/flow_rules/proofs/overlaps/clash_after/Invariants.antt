use Rattle.flow_rules.specs.Frees.{IsFreeUpTo}
use Rattle.flow_rules.proofs.overlaps.clash_after.Given as goal

abbrev pub invariant-loop-j : goal.invariant-loop-j
invariant-loop-j l = IsFreeUpTo l.rules l.i l.j
