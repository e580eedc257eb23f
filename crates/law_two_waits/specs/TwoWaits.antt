-- The waits with which every two-phase plan is certified.
use Rattle.std.specs.Prelude.{ℕ, ◌+◌, ◌*◌, ◌≤◌, List, [], ◌∷◌, length}
use Rattle.std.specs.List.{AllByRecursion}
use Rattle.topology.specs.Networks.{Network, IsNetwork}
use Rattle.flow_rules.specs.declared.rules.Rule.{Rule}
use Rattle.path_walk.specs.UserConfigs.{IsUserConfig}
use Rattle.demands.specs.Duties.{DemandView}
use Rattle.certificates.specs.Certified.{IsCertified}
use Rattle.certificates.specs.declared.Plan.{Plan}
use Rattle.law_spans.specs.Certified.{IsCertifiedWithWaits}
use Rattle.law_spans.specs.Cuts.{IsGreedyCut}
use Rattle.two_phase.specs.Laws.{task_by, FitsTwoPhase}

-- the two waits where the ingress rules have so many layers, ranks or depths: the round in which the exchange begins, and the last
abbrev pub waits_by : ℕ → List ℕ
waits_by layers = (layers + 2) ∷ (2 * layers + 4) ∷ []

-- what the makers of two-phase plans promise: the plan is one for user configurations of a network, fits, and is certified for these demands
pub record IsPromised (net : Network) (old new : List (List Rule)) (demands : List DemandView) (plan : Plan) : Type 0 where
  pub network : IsNetwork net
  pub old_user : IsUserConfig net old
  pub new_user : IsUserConfig net new
  pub fits : FitsTwoPhase net old new
  pub certified : IsCertified (task_by net old new plan.rounds demands) plan.evidence

-- where this is promised of the plan, which has so many layers, it is certified with the two waits
abbrev pub IsCertifiedByTwo : Network → List (List Rule) → List (List Rule) → List DemandView → Plan → ℕ → Type 0
IsCertifiedByTwo net old new demands plan layers =
    IsPromised net old new demands plan → IsCertifiedWithWaits (task_by net old new plan.rounds demands) plan.evidence (waits_by layers)

-- where this is promised, the greedy cut has at most two waits, and none is below the round in which the exchange begins
abbrev pub NeedsAtMostTwo : Network → List (List Rule) → List (List Rule) → List DemandView → Plan → ℕ → Type 0
NeedsAtMostTwo net old new demands plan layers =
    IsPromised net old new demands plan → (waits : List ℕ) → IsGreedyCut (task_by net old new plan.rounds demands) plan.evidence waits
    → (length waits ≤ 2) × AllByRecursion (λ w. layers + 2 ≤ w) waits
