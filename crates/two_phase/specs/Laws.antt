-- What the two-phase plan is worth: it is certified wherever it fits.
use Rattle.std.specs.Prelude.{ℕ, ◌<◌, ◌≤◌, List, length}
use Rattle.net_base.specs.declared.ids.SwitchId.{SwitchId}
use Rattle.topology.specs.Networks.{Network, switch_count, capacity_of}
use Rattle.flow_rules.specs.declared.rules.Rule.{Rule}
use Rattle.demands.specs.Duties.{DemandView}
use Rattle.demands.specs.Good.{HasGoodPaths}
use Rattle.update_model.specs.declared.Change.{Change}
use Rattle.certificates.specs.Updates.{Task}
use Rattle.certificates.specs.Certified.{classes_for, IsCertified}
use Rattle.certificates.specs.declared.Evidence.TheVariants.{TwoPhase}
use Rattle.certificates.specs.declared.TwoPhaseEvidence.{TwoPhaseEvidence}
use Rattle.tag_allocator.specs.Tags.{available_tags}
use Rattle.two_phase.specs.TwoPhasePlan.{two_phase_rounds, ranks, label_tables, label_picks, two_phase_need}

-- the update by these rounds under demands
abbrev pub task_by : Network → List (List Rule) → List (List Rule) → List (List Change) → List DemandView → Task
task_by net old new rounds demands = record { update = record { net = net; old = old; new = new; demands = demands }; rounds = rounds }

-- the update by the two-phase plan under demands
abbrev pub two_phase_task : Network → List (List Rule) → List (List Rule) → List DemandView → Task
two_phase_task net old new demands = task_by net old new (two_phase_rounds net old new) demands

-- the evidence of a two-phase plan with so many layers of ingress rules, and with the rounds that were tried before
abbrev pub layered_evidence : Network → ℕ → List (List Change) → TwoPhaseEvidence
layered_evidence net layers tried = record { labels = label_tables net; picks = label_picks layers; tried = tried }

-- the evidence of the two-phase plan, with the rounds that were tried before
abbrev pub two_phase_evidence : Network → List (List Rule) → List (List Change) → TwoPhaseEvidence
two_phase_evidence net new tried = layered_evidence net (length (ranks net new)) tried

-- there are tags for all declared VLANs, and each switch has room for what the plan needs there
pub record FitsTwoPhase (net : Network) (old new : List (List Rule)) : Type 0 where
  pub tags : length net.vlans ≤ length (available_tags net)
  pub room : (s : SwitchId) → s.0 < switch_count net → two_phase_need net old new s ≤ capacity_of net s

-- the two-phase plan is certified for all demands under which both configurations have good paths
abbrev pub TwoPhasePlansAreCertified : Network → List (List Rule) → List (List Rule) → Type 0
TwoPhasePlansAreCertified net old new =
    FitsTwoPhase net old new → (demands : List DemandView) (tried : List (List Change))
    → HasGoodPaths net old demands (classes_for (two_phase_task net old new demands)) → HasGoodPaths net new demands (classes_for (two_phase_task net old new demands))
    → IsCertified (two_phase_task net old new demands) (TwoPhase (two_phase_evidence net new tried))
