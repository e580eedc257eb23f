-- Two phases by depth: the two-phase plan whose ranks are depths, so that ingress rules without a common packet are laid in one round.
use Rattle.std.specs.Prelude.{ℕ, zero, suc, ◌&&◌, nat_lt, max, Bool, List, [], ◌∷◌, length, map, reverse, filter, flat_map}
use Rattle.net_base.specs.declared.ids.SwitchId.{SwitchId}
use Rattle.topology.specs.Networks.{Network}
use Rattle.flow_rules.specs.Overlaps.{patterns_meet}
use Rattle.flow_rules.specs.Tables.{rules_at}
use Rattle.flow_rules.specs.declared.rules.Rule.{Rule}
use Rattle.demands.specs.Duties.{DemandView}
use Rattle.update_model.specs.declared.Change.{Change}
use Rattle.certificates.specs.Updates.{Task}
use Rattle.certificates.specs.declared.Plan.{Plan}
use Rattle.net_base.specs.Numbers.{numbers_from}
use Rattle.two_phase.specs.TwoPhasePlan.{ingress_rules, layered_rounds, switches}
use Rattle.two_phase.specs.Laws.{task_by}
use Rattle.two_phase.specs.Plans.{layered_plan, IsCertifiedWith}

-- whether a rule is above another: it has the higher priority, and some packet is covered by both
abbrev pub is_above : Rule → Rule → Bool
is_above x y = nat_lt y.key.priority x.key.priority && patterns_meet x.key.pattern y.key.pattern

-- the greatest of some numbers, 0 where there is none
abbrev pub greatest : List ℕ → ℕ
greatest [] = 0
greatest (n ∷ ns) = max n (greatest ns)

-- the depth of a rule among rules, where at most so many are followed upwards: 0 where none is above it, otherwise one more than the greatest depth of those above it
abbrev pub depth_through : ℕ → List Rule → Rule → ℕ
depth_through zero rules r = 0
depth_through (suc n) rules r = greatest (map (λ x. suc (depth_through n rules x)) (filter (λ x. is_above x r) rules))

-- the depth of a rule among rules; upwards priorities rise, so no more than all rules can be followed
abbrev pub depth_of : List Rule → Rule → ℕ
depth_of rules r = depth_through (length rules) rules r

-- the depth of an ingress rule among those of its switch
abbrev pub ingress_depth : Network → List (List Rule) → SwitchId → Rule → ℕ
ingress_depth net new s r = depth_of (ingress_rules net s (rules_at new s)) r

-- how many depths there are: one more than the greatest depth of an ingress rule, 1 where there is none
abbrev pub depth_count : Network → List (List Rule) → ℕ
depth_count net new = suc (greatest (flat_map (λ s. map (ingress_depth net new s) (ingress_rules net s (rules_at new s))) (switches net)))

-- the depths, ascending
abbrev pub depths : Network → List (List Rule) → List ℕ
depths net new = numbers_from 0 (depth_count net new)

-- the rounds of the two-phase plan by depth: the ingress rules come by ascending depth and go by descending depth
abbrev pub depth_rounds : Network → List (List Rule) → List (List Rule) → List (List Change)
depth_rounds net old new = layered_rounds net old new (ingress_depth net new) (depths net new) (reverse (depths net new))

-- the update by the two-phase plan by depth under demands
abbrev pub depth_task : Network → List (List Rule) → List (List Rule) → List DemandView → Task
depth_task net old new demands = task_by net old new (depth_rounds net old new) demands

-- the two-phase plan by depth, with the rounds that were tried before
abbrev pub depth_plan : Network → List (List Rule) → List (List Rule) → List (List Change) → Plan
depth_plan net old new tried = layered_plan net (depth_rounds net old new) (depth_count net new) tried

-- the plan is certified for all demands under which both configurations have good paths for their own classes
abbrev pub IsCertifiedByDepth : Network → List (List Rule) → List (List Rule) → Plan → Type 0
IsCertifiedByDepth net old new plan = IsCertifiedWith net old new (depth_rounds net old new) plan
