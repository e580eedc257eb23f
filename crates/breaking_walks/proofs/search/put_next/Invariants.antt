use Rattle.std.proofs.Common.{take}
use Rattle.breaking_walks.specs.Trails.{ArePut}
use Rattle.breaking_walks.proofs.search.put_next.Given as goal

abbrev pub invariant-loop-outcome : goal.invariant-loop-outcome
invariant-loop-outcome l = ArePut l.initial.trail l.chain l.node l.number (take l.outcome-index l.found) l.trail
