use Rattle.std.proofs.Common.{◌≡◌, take}
use Rattle.two_phase.proofs.labels.table_with.Given as goal

abbrev pub invariant-loop-label : goal.invariant-loop-label
invariant-loop-label l = l.labels ≡ take l.label-index l.list
