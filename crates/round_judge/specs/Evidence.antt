-- The evidence that is made for rounds: heights and least before sets, a new pick exactly where the one in force fails.
use Rattle.std.specs.Prelude.{◌≡◌, ◌↔◌, ℕ, suc, ◌<◌, ◌≤◌, nat_le, List, length, filter}
use Rattle.std.specs.List.{AllByRecursion}
use Rattle.net_base.specs.Members.{IsIn}
use Rattle.dest_classes.specs.Classes.{IsClass}
use Rattle.dest_classes.specs.declared.Class.{Class}
use Rattle.update_model.specs.Mixtures.{Rollout}
use Rattle.certificates.specs.Ordered.{IsMeant, OrderedCertificate}
use Rattle.certificates.specs.Valid.{IsChain, IsPickBefore, IsValidNumbering, IsValidBefore}
use Rattle.certificates.specs.declared.OrderedPick.{OrderedPick}
use Rattle.certificates.specs.declared.OrderedEvidence.{OrderedEvidence}
use Rattle.evidence_store.specs.Found.{IsLeastEvidence}
use Rattle.evidence_store.specs.Stored.{IsEachOnce}
use Rattle.table_difference.specs.Targets.{Target}
use Rattle.round_judge.specs.Goals.{duties_in}

-- the evidence with the picks of the rounds up to one alone
abbrev pub evidence_until : ℕ → OrderedEvidence → OrderedEvidence
evidence_until round e = record e { picks = filter (λ p. nat_le p.round round) e.picks }

-- there is a pick of round k (counted from 0) and class n
pub record HasPick (e : OrderedEvidence) (k n : ℕ) : Type 0 where
  pub pick : OrderedPick
  pub stands : IsIn pick e.picks
  pub round_is : pick.round ≡ suc k
  pub class_is : pick.class ≡ n

-- a pick means the heights and the least before sets of its round and class
pub record IsLeastPick (to : Target) (u : Rollout) (e : OrderedEvidence) (pick : OrderedPick) : Type 0 where
  pub k : ℕ
  pub class : Class
  pub numbers : List ℕ
  pub sets : List (List ℕ)
  pub within : k < length u.rounds
  pub round_is : pick.round ≡ suc k
  pub class_is : IsClass to.classes pick.class class
  pub meant : IsMeant e pick numbers sets
  pub least : IsLeastEvidence u k class (duties_in to class) numbers sets

-- the evidence of the search for these rounds: a new pick exactly where the one in force fails, with heights and least sets,
-- each numbering, set and use once and in the order of first use
pub record IsSearchEvidence (to : Target) (u : Rollout) (e : OrderedEvidence) : Type 0 where
  pub picks : (k n : ℕ) (class : Class) → k < length u.rounds → IsClass to.classes n class
      → HasPick e k n ↔ (¬ OrderedCertificate u (evidence_until k e) k n class.first class.entry (duties_in to class))
  pub picked : (p : OrderedPick) → IsIn p e.picks → IsLeastPick to u e p
  pub ascending : IsChain IsPickBefore e.picks
  pub sets : AllByRecursion (λ set. IsChain (λ s t. s < t) set) e.befores
  pub once : IsEachOnce e

-- the class has its certificate in round k by the evidence
abbrev pub IsCertifiedClass : Target → Rollout → OrderedEvidence → ℕ → ℕ → Class → Type 0
IsCertifiedClass to u e k n class = OrderedCertificate u e k n class.first class.entry (duties_in to class)

-- so far there is this evidence, for the first k rounds: their picks and no others, and each class has its certificate in each
-- of them
pub record HasEvidenceTo (to : Target) (u : Rollout) (k : ℕ) (e : OrderedEvidence) : Type 0 where
  pub within : k ≤ length u.rounds
  pub picks : (j n : ℕ) (class : Class) → j < k → IsClass to.classes n class
      → HasPick e j n ↔ (¬ OrderedCertificate u (evidence_until j e) j n class.first class.entry (duties_in to class))
  pub picked : (p : OrderedPick) → IsIn p e.picks → IsLeastPick to u e p
  pub begun : AllByRecursion (λ p. (0 < p.round) × (p.round ≤ k)) e.picks
  pub ascending : IsChain IsPickBefore e.picks
  pub once : IsEachOnce e
  pub certificates : (j n : ℕ) (class : Class) → j < k → IsClass to.classes n class → IsCertifiedClass to u e j n class
  pub numberings : AllByRecursion (IsValidNumbering to.net) e.numberings
  pub befores : AllByRecursion (IsValidBefore to.net) e.befores
