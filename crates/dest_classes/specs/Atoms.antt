-- Atoms by their first addresses, and the atom of an address.
use Rattle.std.specs.Prelude.{◌≡◌, ℕ, ◌<◌, ◌≤◌, ◌^◌, List, length, slice_index, slice_get, Some}
use Rattle.std.specs.List.{AllByRecursion}
use Rattle.std.specs.List.Sorted.{IsStrictlyIncreasing}
use Rattle.net_base.specs.Blocks.{Block, IsSameClass}
use Rattle.dest_classes.specs.Classes.{boundaries}
use Rattle.dest_classes.specs.declared.AtomRange.{AtomRange}

-- the first addresses of atoms: 0, then each above the one before, all of 32 bits
pub record AreFirsts (firsts : List ℕ) : Type 0 where
  pub some : 0 < length firsts
  pub begin : slice_index firsts 0 ≡ 0
  pub rise : IsStrictlyIncreasing firsts
  pub fit : AllByRecursion (λ a. a < 2 ^ 32) firsts

-- atom i has the address: its first address is the greatest that isn't above it
pub record IsAtomOf (firsts : List ℕ) (i address : ℕ) : Type 0 where
  pub within : i < length firsts
  pub below : slice_index firsts i ≤ address
  pub greatest : (k : ℕ) → k < length firsts → slice_index firsts k ≤ address → slice_index firsts k ≤ slice_index firsts i

-- atom i is one of the range
abbrev pub IsAmong : AtomRange → ℕ → Type 0
IsAmong range i = (range.from ≤ i) × (i < range.to)

-- no prefix tells apart two addresses of one atom
abbrev pub OneAtomIsOneClass : List Block → Type 0
OneAtomIsOneClass blocks =
    (i a b : ℕ) → a < 2 ^ 32 → b < 2 ^ 32 → IsAtomOf (boundaries blocks) i a → IsAtomOf (boundaries blocks) i b → IsSameClass blocks a b

-- no prefix tells an address apart from the first address of its atom
abbrev pub FirstIsOfTheClass : List Block → Type 0
FirstIsOfTheClass blocks =
    (i first a : ℕ) → a < 2 ^ 32 → slice_get (boundaries blocks) i ≡ Some first → IsAtomOf (boundaries blocks) i a → IsSameClass blocks first a
