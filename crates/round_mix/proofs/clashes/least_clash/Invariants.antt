use Rattle.std.proofs.Common.{ℕ, ◌<◌}
use Rattle.flow_rules.specs.Frees.{IsFree}
use Rattle.round_mix.specs.Marks.{rules_of}
use Rattle.round_mix.proofs.clashes.least_clash.Given as goal

abbrev pub invariant-loop-i : goal.invariant-loop-i
invariant-loop-i l = (k : ℕ) → k < l.i → IsFree (rules_of l.rules) k
