use Rattle.std.proofs.Common.{take}
use Rattle.net_base.specs.Members.{IsIn}
use Rattle.net_base.specs.declared.ids.Port.{Port}
use Rattle.net_base.specs.declared.ids.Vlan.{Vlan}
use Rattle.path_walk.specs.declared.Outcome.TheVariants.{Leave}
use Rattle.breaking_walks.proofs.breaking.first_leave.Given as goal

abbrev pub invariant-loop-outcome : goal.invariant-loop-outcome
invariant-loop-outcome l = (port : Port) (vlan : Vlan) → ¬ IsIn (Leave port vlan) (take l.outcome-index l.outcomes)
