use Rattle.std.proofs.Common.{take}
use Rattle.breaking_walks.specs.Trails.{HasLeave}
use Rattle.breaking_walks.proofs.search.has_leave.Given as goal

abbrev pub invariant-loop-outcome : goal.invariant-loop-outcome
invariant-loop-outcome l = ¬ HasLeave (take l.outcome-index l.found)
