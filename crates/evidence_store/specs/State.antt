-- What is seen of a store of evidence, and what it keeps.
use Rattle.std.specs.Prelude.{◌≡◌, ◌≢◌, ℕ, ◌≤◌, List, slice_get, Option, Some, None}
use Rattle.net_base.specs.Members.{IsIn}
use Rattle.certificates.specs.declared.OrderedPick.{OrderedPick}
use Rattle.certificates.specs.declared.OrderedEvidence.{OrderedEvidence}

-- the evidence so far, and of how many classes it may be
pub record StoreState : Type 0 where
  pub evidence : OrderedEvidence
  pub classes : ℕ

-- a pick of the class, than which no other pick of it has a greater round, names the use
pub record IsLatest (picks : List OrderedPick) (class shared : ℕ) : Type 0 where
  pub pick : OrderedPick
  pub stands : IsIn pick picks
  pub of_class : pick.class ≡ class
  pub latest : (other : OrderedPick) → IsIn other picks → other.class ≡ class → other.round ≤ pick.round
  pub shared_is : pick.shared ≡ shared

-- the use of the latest pick of the class, or none where there is no pick of it
abbrev pub IsUseInForce : List OrderedPick → ℕ → Option ℕ → Type 0
IsUseInForce picks class None = (pick : OrderedPick) → IsIn pick picks → pick.class ≢ class
IsUseInForce picks class (Some use_) = IsLatest picks class use_

-- each class below the count has its use in force
abbrev pub AreInForce : List OrderedPick → List (Option ℕ) → Type 0
AreInForce picks uses = (class : ℕ) (use_ : Option ℕ) → slice_get uses class ≡ Some use_ → IsUseInForce picks class use_
