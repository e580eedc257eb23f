use Rattle.std.proofs.Common.{ℕ, ◌<◌}
use Rattle.flow_rules.specs.Frees.{IsFree}
use Rattle.flow_rules.proofs.overlaps.least_clash.Given as goal

abbrev pub invariant-loop-i : goal.invariant-loop-i
invariant-loop-i l = (k : ℕ) → k < l.i → IsFree l.rules k
