-- The evidence of an ordered plan, kept so that nothing stands twice.
use Rattle.std.specs.Prelude.{◌≡◌, ◌⊎◌, ℕ, suc, ◌<◌, ◌≤◌, List, [], ◌∷◌, ◌++◌, length, map, flat_map}
use Rattle.std.specs.List.{AllByRecursion}
use Rattle.net_base.specs.Members.{IsIn, IsDistinct, IsPrefix}
use Rattle.certificates.specs.Ordered.{IsMeant}
use Rattle.certificates.specs.Valid.{IsChain, IsPickBefore, IsValidUse}
use Rattle.certificates.specs.declared.OrderedPick.{OrderedPick}
use Rattle.certificates.specs.declared.OrderedEvidence.{OrderedEvidence}

-- the numbers come in the order of first use: each is one that was used before, or the next one, from the first number up to the last
abbrev pub UsesInOrder : ℕ → List ℕ → ℕ → Type 0
UsesInOrder next [] last = next ≡ last
UsesInOrder next (i ∷ rest) last = ((i < next) × UsesInOrder next rest last) ⊎ ((i ≡ next) × UsesInOrder (suc next) rest last)

-- each numbering, before set and use stands once, in the order of first use by the picks
pub record IsEachOnce (e : OrderedEvidence) : Type 0 where
  pub numberings_once : IsDistinct e.numberings
  pub befores_once : IsDistinct e.befores
  pub uses_once : IsDistinct e.uses
  pub uses_in_order : UsesInOrder 0 (map (λ p. p.shared) e.picks) (length e.uses)
  pub numberings_in_order : UsesInOrder 0 (map (λ use_. use_.numbering) e.uses) (length e.numberings)
  pub befores_in_order : UsesInOrder 0 (flat_map (λ use_. use_.befores) e.uses) (length e.befores)

-- what a store keeps: nothing twice, numbers of what there is, and picks by round and then by class
pub record IsStored (e : OrderedEvidence) : Type 0 where
  pub once : IsEachOnce e
  pub uses : AllByRecursion (IsValidUse (length e.numberings) (length e.befores)) e.uses
  pub picks : AllByRecursion (λ p. (p.shared < length e.uses) × (p.shared ≤ 4294967295)) e.picks
  pub ascending : IsChain IsPickBefore e.picks

-- evidence of no picks
abbrev pub no_evidence : OrderedEvidence
no_evidence = record { numberings = []; befores = []; uses = []; picks = [] }

-- one pick more, of this round and class, that means this numbering and these before sets; what stood there stays
pub record IsWithPick (old : OrderedEvidence) (round class : ℕ) (numbers : List ℕ) (sets : List (List ℕ)) (new : OrderedEvidence) : Type 0 where
  pub pick : OrderedPick
  pub round_is : pick.round ≡ round
  pub class_is : pick.class ≡ class
  pub picks : new.picks ≡ old.picks ++ pick ∷ []
  pub meant : IsMeant new pick numbers sets
  pub numberings : IsPrefix old.numberings new.numberings
  pub befores : IsPrefix old.befores new.befores
  pub uses : IsPrefix old.uses new.uses
  pub only_numbers : (n : List ℕ) → IsIn n new.numberings → IsIn n old.numberings ⊎ (n ≡ numbers)
  pub only_sets : (set : List ℕ) → IsIn set new.befores → IsIn set old.befores ⊎ IsIn set sets
