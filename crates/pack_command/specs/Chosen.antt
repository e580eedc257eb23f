-- Which plan `pack` writes: the packed plan, that of the search, or that of two phases. KIND, where it is given, leaves some of them out.
use Rattle.std.specs.Prelude.{◌≡◌, ◌⊎◌, ℕ, ◌+◌, ◌*◌, ◌<◌, ◌≤◌, List, [], length}
use Rattle.update_model.specs.declared.Change.{Change}
use Rattle.certificates.specs.Updates.{Update, task_for, rollout}
use Rattle.certificates.specs.Certified.{IsCertified, classes_for}
use Rattle.certificates.specs.Valid.{IsValidPlan}
use Rattle.certificates.specs.declared.Evidence.TheVariants.{Ordered}
use Rattle.certificates.specs.declared.OrderedEvidence.{OrderedEvidence}
use Rattle.certificates.specs.declared.Plan.{Plan}
use Rattle.evidence_store.specs.Stored.{no_evidence}
use Rattle.law_packed_rounds.specs.Packing.{PacksOrdered, PacksStuck}
use Rattle.round_judge.specs.Evidence.{IsSearchEvidence}
use Rattle.round_certifier.specs.Standing.{target_for}
use Rattle.round_planner.specs.Ends.{IsPlanOf, AreStuck}
use Rattle.round_planner.specs.Updates.{update_classes, update_target}
use Rattle.table_difference.specs.SameClasses.{HasSameClasses}
use Rattle.two_phase.specs.Laws.{FitsTwoPhase}
use Rattle.two_phase.specs.Depths.{depth_plan, depth_count}
use Rattle.plan_command.specs.NewPlans.{IsOrdered}
use Rattle.pack_command.specs.declared.names.PackKind.{PackKind}
use Rattle.pack_command.specs.declared.names.PackKind.TheVariants as pack_kind

-- packing ends ordered with the rounds of the plan, and its evidence is that which the search makes for these rounds
pub record IsPackedPlan (u : Update) (p : Plan) : Type 0 where
  pub packed : PacksOrdered (update_target u) u.old p.rounds
  pub evidence : OrderedEvidence
  pub evidence_is : p.evidence ≡ Ordered evidence
  pub searched : IsSearchEvidence (update_target u) (rollout (task_for u p)) evidence

-- the plan has packed rounds after which nothing remains, and no evidence; it is valid, and has the classes of the update
pub record IsBarePacked (u : Update) (p : Plan) : Type 0 where
  pub packed : PacksOrdered (update_target u) u.old p.rounds
  pub bare : p.evidence ≡ Ordered no_evidence
  pub valid : IsValidPlan u.net p
  pub classes : HasSameClasses (classes_for (task_for u p)) (update_classes u)

-- the evidence is that which the search makes for the rounds of the plan, which it certifies
pub record IsEvidenceFor (u : Update) (p : Plan) (e : OrderedEvidence) : Type 0 where
  pub searched : IsSearchEvidence (target_for (task_for u p)) (rollout (task_for u p)) e
  pub certified : IsCertified (task_for u p) (Ordered e)
  pub valid : IsValidPlan u.net (record { rounds = p.rounds; evidence = Ordered e })

-- packing ends ordered
pub record IsPackingOrdered (u : Update) : Type 0 where
  pub rounds : List (List Change)
  pub ends : PacksOrdered (update_target u) u.old rounds

-- packing ends stuck
pub record IsPackingStuck (u : Update) : Type 0 where
  pub rounds : List (List Change)
  pub ends : PacksStuck (update_target u) u.old rounds

-- the packed plan, or where packing ends stuck that of a search which ends ordered
abbrev pub IsOrderedPlan : Update → Plan → Type 0
IsOrderedPlan u p = IsPackedPlan u p ⊎ (IsPackingStuck u × IsPlanOf (update_target u) u.old p)

-- there is an ordered plan: packing ends ordered, or it ends stuck and the search ordered
abbrev pub HasOrderedPlan : Update → Type 0
HasOrderedPlan u = IsPackingOrdered u ⊎ (IsPackingStuck u × IsOrdered u)

-- there is no ordered plan: packing ends stuck, and so does the search, after these rounds
pub record HasNoOrderedPlan (u : Update) (tried : List (List Change)) : Type 0 where
  pub packing : IsPackingStuck u
  pub search : AreStuck (update_target u) u.old tried

-- the plan of two phases by depth, with the rounds that were tried before
abbrev pub phased_plan : Update → List (List Change) → Plan
phased_plan u tried = depth_plan u.net u.old u.new tried

-- the number of its rounds: two for each depth of ingress rules, and four
abbrev pub phased_count : Update → ℕ
phased_count u = 2 * depth_count u.net u.new + 4

-- the ordered plan, where a plan of two phases that fits has at least half as many rounds
pub record IsShortOrdered (u : Update) (p : Plan) : Type 0 where
  pub ordered : IsOrderedPlan u p
  pub few : FitsTwoPhase u.net u.old u.new → length p.rounds ≤ 2 * phased_count u

-- the plan of two phases, which fits, where the ordered plan has more than twice as many rounds; no rounds stand in it as tried
pub record IsShortPhased (u : Update) (p : Plan) : Type 0 where
  pub longer : Plan
  pub ordered : IsOrderedPlan u longer
  pub fits : FitsTwoPhase u.net u.old u.new
  pub many : 2 * phased_count u < length longer.rounds
  pub plan_is : p ≡ phased_plan u []

-- the rounds that are tried before two phases where no ordered plan may be written: where there is one none, otherwise those of the
-- search; where KIND is left out they are tried only where there is no ordered plan
abbrev pub AreTriedFor : PackKind → Update → List (List Change) → Type 0
AreTriedFor pack_kind.Any u tried = HasNoOrderedPlan u tried
AreTriedFor pack_kind.Ordered u tried = ⊥
AreTriedFor pack_kind.TwoPhase u tried = (HasOrderedPlan u × (tried ≡ [])) ⊎ HasNoOrderedPlan u tried

-- the plan of two phases, which fits, where no ordered plan may be written; these rounds stand in it as tried
pub record IsOnlyPhased (kind : PackKind) (u : Update) (p : Plan) : Type 0 where
  pub tried : List (List Change)
  pub are_tried : AreTriedFor kind u tried
  pub fits : FitsTwoPhase u.net u.old u.new
  pub plan_is : p ≡ phased_plan u tried

-- the plan that `pack` writes: without KIND the ordered plan where it has at most twice as many rounds as that of two phases, otherwise
-- that of two phases, or the only one of them; with KIND that of this kind
abbrev pub IsPackPlan : PackKind → Update → Plan → Type 0
IsPackPlan pack_kind.Any u p = IsShortOrdered u p ⊎ (IsShortPhased u p ⊎ IsOnlyPhased pack_kind.Any u p)
IsPackPlan pack_kind.Ordered u p = IsOrderedPlan u p
IsPackPlan pack_kind.TwoPhase u p = IsOnlyPhased pack_kind.TwoPhase u p
