use Rattle.std.proofs.Common.{take}
use Rattle.net_base.specs.Members.{IsIn}
use Rattle.path_walk.specs.declared.Outcome.TheVariants.{Discard}
use Rattle.breaking_walks.proofs.search.has_discard.Given as goal

abbrev pub invariant-loop-outcome : goal.invariant-loop-outcome
invariant-loop-outcome l = ¬ IsIn Discard (take l.outcome-index l.found)
