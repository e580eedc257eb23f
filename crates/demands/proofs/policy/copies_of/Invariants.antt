use Rattle.std.proofs.Common.{◌≡◌, take}
use Rattle.demands.proofs.policy.copies_of.Given as goal

abbrev pub invariant-loop-demand : goal.invariant-loop-demand
invariant-loop-demand l = l.copies.items ≡ take l.demand-index l.demands
