use Rattle.flow_rules.specs.Frees.{IsFreeUpTo}
use Rattle.round_mix.specs.Marks.{rules_of}
use Rattle.round_mix.proofs.clashes.clash_after.Given as goal

abbrev pub invariant-loop-j : goal.invariant-loop-j
invariant-loop-j l = IsFreeUpTo (rules_of l.rules) l.i l.j
