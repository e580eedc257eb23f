use Rattle.std.proofs.Common.{◌≡◌, map, take}
use Rattle.demands.specs.Duties.{DemandView}
use Rattle.demands.proofs.policy.prefixes_of.Given as goal

abbrev pub invariant-loop-demand : goal.invariant-loop-demand
invariant-loop-demand l = l.prefixes.items ≡ map (λ (d : DemandView). d.dst) (take l.demand-index l.demands)
