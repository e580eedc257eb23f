-- Valid plans: what the reader of plans demands of counts, numbers, indices and orders.
use Rattle.std.specs.Prelude.{◌≡◌, ◌⊎◌, ℕ, ◌+◌, ◌<◌, ◌≤◌, List, [], ◌∷◌, length, sum_by}
use Rattle.std.specs.List.{AllByRecursion}
use Rattle.net_base.specs.declared.ids.Vlan.{Vlan}
use Rattle.net_base.specs.declared.ids.Vlan.TheVariants as vlan
use Rattle.topology.specs.Networks.{Network, switch_count, IsVlan}
use Rattle.update_model.specs.Ranges.{IsPlanChange}
use Rattle.certificates.specs.declared.Shared.{Shared}
use Rattle.certificates.specs.declared.OrderedPick.{OrderedPick}
use Rattle.certificates.specs.declared.Label.{Label}
use Rattle.certificates.specs.declared.LabelPick.{LabelPick}
use Rattle.certificates.specs.declared.OrderedEvidence.{OrderedEvidence}
use Rattle.certificates.specs.declared.TwoPhaseEvidence.{TwoPhaseEvidence}
use Rattle.certificates.specs.declared.Evidence.{Evidence}
use Rattle.certificates.specs.declared.Evidence.TheVariants.{Ordered, TwoPhase}
use Rattle.certificates.specs.declared.Plan.{Plan}

-- each next member stands in the relation to the one before
abbrev pub IsChain : {A : Type 0} → (A → A → Type 0) → List A → Type 0
IsChain below [] = Unit {0}
IsChain below (x ∷ []) = Unit {0}
IsChain below (x ∷ y ∷ rest) = below x y × IsChain below (y ∷ rest)

-- one pick comes before another, by round and then by class
abbrev pub IsPickBefore : OrderedPick → OrderedPick → Type 0
IsPickBefore p q = (p.round < q.round) ⊎ ((p.round ≡ q.round) × (p.class < q.class))

-- untagged comes first, then the ids ascending
abbrev pub IsVlanBefore : Vlan → Vlan → Type 0
IsVlanBefore vlan.Untagged (vlan.Id n) = Unit {0}
IsVlanBefore (vlan.Id m) (vlan.Id n) = m < n
IsVlanBefore _ _ = ⊥

-- a numbering: one number of 16 bits for each switch
abbrev pub IsValidNumbering : Network → List ℕ → Type 0
IsValidNumbering net n = (length n ≡ switch_count net) × AllByRecursion (λ x. x ≤ 65535) n

-- a before set: switches of the network, ascending
abbrev pub IsValidBefore : Network → List ℕ → Type 0
IsValidBefore net set = AllByRecursion (λ s. s < switch_count net) set × IsChain (λ s t. s < t) set

-- shared evidence: the numbers of a numbering and of before sets that there are
abbrev pub IsValidUse : ℕ → ℕ → Shared → Type 0
IsValidUse numberings befores use_ = (use_.numbering < numberings) × (use_.numbering ≤ 4294967295) × AllByRecursion (λ i. i < befores) use_.befores

-- a pick: a round that there is, a class number, and the number of shared evidence that there is
abbrev pub IsValidPick : ℕ → ℕ → OrderedPick → Type 0
IsValidPick rounds uses p = (1 ≤ p.round) × (p.round ≤ rounds) × (p.class ≤ 8191) × (p.shared < uses) × (p.shared ≤ 4294967295)

-- valid evidence of an ordered plan with so many rounds
pub record IsValidOrdered (net : Network) (rounds : ℕ) (e : OrderedEvidence) : Type 0 where
  pub numberings : AllByRecursion (IsValidNumbering net) e.numberings
  pub befores : AllByRecursion (IsValidBefore net) e.befores
  pub uses : AllByRecursion (IsValidUse (length e.numberings) (length e.befores)) e.uses
  pub picks : AllByRecursion (IsValidPick rounds (length e.uses)) e.picks
  pub ascending : IsChain IsPickBefore e.picks

-- a label table: VLANs in range, each labelled once, untagged first and then ascending
abbrev pub IsValidTable : List Label → Type 0
IsValidTable table = AllByRecursion (λ l. IsVlan l.vlan × IsVlan l.user) table × IsChain (λ a b. IsVlanBefore a.vlan b.vlan) table

-- a pick: a round that there is, and the number of a label table that there is
abbrev pub IsValidLabelPick : ℕ → ℕ → LabelPick → Type 0
IsValidLabelPick rounds tables p = (1 ≤ p.round) × (p.round ≤ rounds) × (p.labels < tables) × (p.labels ≤ 4294967295)

-- valid evidence of a two-phase plan with so many rounds and changes
pub record IsValidTwoPhase (net : Network) (rounds changes : ℕ) (e : TwoPhaseEvidence) : Type 0 where
  pub labels : AllByRecursion IsValidTable e.labels
  pub picks : AllByRecursion (IsValidLabelPick rounds (length e.labels)) e.picks
  pub ascending : IsChain (λ p q. p.round < q.round) e.picks
  pub few_tried : length e.tried ≤ 4096
  pub few_changes : changes + sum_by length e.tried ≤ 2200000
  pub tried : AllByRecursion (AllByRecursion (IsPlanChange net)) e.tried

-- valid evidence
abbrev pub IsValidEvidence : Network → ℕ → ℕ → Evidence → Type 0
IsValidEvidence net rounds changes (Ordered e) = IsValidOrdered net rounds e
IsValidEvidence net rounds changes (TwoPhase e) = IsValidTwoPhase net rounds changes e

-- a valid plan
pub record IsValidPlan (net : Network) (plan : Plan) : Type 0 where
  pub few_rounds : length plan.rounds ≤ 4200
  pub few_changes : sum_by length plan.rounds ≤ 2200000
  pub rounds : AllByRecursion (AllByRecursion (IsPlanChange net)) plan.rounds
  pub evidence : IsValidEvidence net (length plan.rounds) (sum_by length plan.rounds) plan.evidence
