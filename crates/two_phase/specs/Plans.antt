-- The two-phase plan as a whole, and why there is none.
use Rattle.std.specs.Prelude.{◌≡◌, ℕ, ◌<◌, ◌≤◌, List, length}
use Rattle.net_base.specs.declared.ids.SwitchId.{SwitchId}
use Rattle.topology.specs.Networks.{Network, switch_count, capacity_of}
use Rattle.flow_rules.specs.declared.rules.Rule.{Rule}
use Rattle.demands.specs.Duties.{DemandView}
use Rattle.demands.specs.Good.{HasGoodPaths}
use Rattle.update_model.specs.declared.Change.{Change}
use Rattle.certificates.specs.Certified.{IsCertified}
use Rattle.certificates.specs.declared.Evidence.TheVariants.{TwoPhase}
use Rattle.certificates.specs.declared.Plan.{Plan}
use Rattle.tag_allocator.specs.Tags.{available_tags}
use Rattle.table_difference.specs.SameClasses.{classes_before}
use Rattle.two_phase.specs.TwoPhasePlan.{two_phase_rounds, ranks, two_phase_need}
use Rattle.two_phase.specs.Laws.{task_by, layered_evidence}
use Rattle.two_phase.specs.declared.planning.TwoFault.{TwoFault}
use Rattle.two_phase.specs.declared.planning.TwoFault.TheVariants.{TooFewTags, TooSmall, Memory}

-- a two-phase plan of these rounds, with so many layers of ingress rules, ranks or depths, and with the rounds that were tried before
abbrev pub layered_plan : Network → List (List Change) → ℕ → List (List Change) → Plan
layered_plan net rounds layers tried = record { rounds = rounds; evidence = TwoPhase (layered_evidence net layers tried) }

-- the two-phase plan, with the rounds that were tried before
abbrev pub two_phase_plan : Network → List (List Rule) → List (List Rule) → List (List Change) → Plan
two_phase_plan net old new tried = layered_plan net (two_phase_rounds net old new) (length (ranks net new)) tried

-- there are too few tags: more declared VLANs than available ones
pub record AreTooFew (net : Network) (need has : ℕ) : Type 0 where
  pub need_is : need ≡ length net.vlans
  pub has_is : has ≡ length (available_tags net)
  pub fewer : has < need

-- there are enough tags, and the first switch at which the plan needs more entries than it has room for
pub record IsFirstTooSmall (net : Network) (old new : List (List Rule)) (s : SwitchId) (need capacity : ℕ) : Type 0 where
  pub tags : length net.vlans ≤ length (available_tags net)
  pub within : s.0 < switch_count net
  pub need_is : need ≡ two_phase_need net old new s
  pub capacity_is : capacity ≡ capacity_of net s
  pub over : capacity < need
  pub below : (t : SwitchId) → t.0 < s.0 → two_phase_need net old new t ≤ capacity_of net t

-- why there is no two-phase plan; want of memory has no cause here
abbrev pub IsTwoCause : Network → List (List Rule) → List (List Rule) → TwoFault → Type 0
IsTwoCause net old new (TooFewTags need has) = AreTooFew net need has
IsTwoCause net old new (TooSmall s need capacity) = IsFirstTooSmall net old new s need capacity
IsTwoCause net old new Memory = Unit {0}

-- a plan of these rounds is certified for all demands under which both configurations have good paths for their own classes
abbrev pub IsCertifiedWith : Network → List (List Rule) → List (List Rule) → List (List Change) → Plan → Type 0
IsCertifiedWith net old new rounds plan =
    (demands : List DemandView)
    → HasGoodPaths net old demands (classes_before net old new demands) → HasGoodPaths net new demands (classes_before net old new demands)
    → IsCertified (task_by net old new rounds demands) plan.evidence

-- so is the two-phase plan
abbrev pub IsCertifiedTwoPhase : Network → List (List Rule) → List (List Rule) → Plan → Type 0
IsCertifiedTwoPhase net old new plan = IsCertifiedWith net old new (two_phase_rounds net old new) plan
