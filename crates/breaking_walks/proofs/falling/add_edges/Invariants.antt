use Rattle.std.proofs.Common.{take}
use Rattle.breaking_walks.specs.Surveys.{AreAdded}
use Rattle.breaking_walks.proofs.falling.add_edges.Given as goal

abbrev pub invariant-loop-outcome : goal.invariant-loop-outcome
invariant-loop-outcome l = AreAdded l.initial.edges.items l.from (take l.outcome-index l.found) l.edges.items
