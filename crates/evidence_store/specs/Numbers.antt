-- Lists in which each member stands once, and the numbers of members in them.
use Rattle.std.specs.Prelude.{◌≡◌, ◌⊎◌, ℕ, ◌≤◌, List, [], ◌∷◌, ◌++◌, length, slice_get, Some}
use Rattle.net_base.specs.Members.{IsIn}
use Rattle.certificates.specs.declared.Shared.{Shared}
use Rattle.certificates.specs.declared.OrderedEvidence.{OrderedEvidence}
use Rattle.certificates.specs.declared.OrderedPick.{OrderedPick}

-- the member stood at the number already
abbrev pub IsFound : {A : Type 0} → List A → A → ℕ → List A → Type 0
IsFound old x n new = (slice_get old n ≡ Some x) × (new ≡ old)

-- the member didn't stand there, and is added with the next number
abbrev pub IsAdded : {A : Type 0} → List A → A → ℕ → List A → Type 0
IsAdded old x n new = (n ≡ length old) × (new ≡ old ++ x ∷ []) × ¬ IsIn x old

-- the number of the member, which is added where it didn't stand
abbrev pub IsNumbered : {A : Type 0} → List A → A → ℕ → List A → Type 0
IsNumbered old x n new = IsFound old x n new ⊎ IsAdded old x n new

-- the numbers of members, one after another
abbrev pub AreNumbered : {A : Type 0} → List A → List A → List ℕ → List A → Type 0
AreNumbered old [] [] new = new ≡ old
AreNumbered {A} old (x ∷ xs) (n ∷ ns) new = (next : List A) × IsNumbered old x n next × AreNumbered next xs ns new
AreNumbered old _ _ new = ⊥

-- the number of the use of a numbering and before sets, each of which is added where it didn't stand
pub record IsWithUse (old : OrderedEvidence) (numbers : List ℕ) (sets : List (List ℕ)) (n : ℕ) (new : OrderedEvidence) : Type 0 where
  pub use_ : Shared
  pub numbering : IsNumbered old.numberings numbers use_.numbering new.numberings
  pub befores : AreNumbered old.befores sets use_.befores new.befores
  pub uses : IsNumbered old.uses use_ n new.uses
  pub picks : new.picks ≡ old.picks
  pub few_numberings : use_.numbering ≤ 4294967295
  pub few_uses : n ≤ 4294967295

-- the evidence with the pick behind all others, and with the use that it names, of a numbering and before sets
pub record IsPicked (old : OrderedEvidence) (numbers : List ℕ) (sets : List (List ℕ)) (pick : OrderedPick) (new : OrderedEvidence) : Type 0 where
  pub used : OrderedEvidence
  pub with_use : IsWithUse old numbers sets pick.shared used
  pub is : new ≡ record { numberings = used.numberings; befores = used.befores; uses = used.uses; picks = used.picks ++ pick ∷ [] }
