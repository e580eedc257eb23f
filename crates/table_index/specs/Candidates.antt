-- The positions of the prefixes that hold an address.
use Rattle.std.specs.Prelude.{◌≡◌, ◌↔◌, ℕ, ◌<◌, IsTrue, List, [], ◌∷◌, map, slice_get, Some}
use Rattle.std.specs.List.{AllByRecursion}
use Rattle.net_base.specs.Blocks.{Block, in_block}
use Rattle.net_base.specs.Members.{IsIn}
use Rattle.flow_rules.specs.declared.rules.Rule.{Rule}

-- positions in a list, and for how many there is room
pub record IndexState : Type 0 where
  pub candidates : List ℕ
  pub room : ℕ

-- the prefix at the position holds the address
pub record IsCandidate (blocks : List Block) (dst i : ℕ) : Type 0 where
  pub block : Block
  pub at : slice_get blocks i ≡ Some block
  pub holds : IsTrue (in_block block dst)

-- each position is below those behind it
abbrev pub IsAscending : List ℕ → Type 0
IsAscending [] = Unit {0}
IsAscending (i ∷ is) = AllByRecursion (λ j. i < j) is × IsAscending is

-- ascending, exactly the positions of the prefixes that hold the address
pub record AreCandidates (blocks : List Block) (dst : ℕ) (positions : List ℕ) : Type 0 where
  pub ascending : IsAscending positions
  pub exact : (i : ℕ) → IsIn i positions ↔ IsCandidate blocks dst i

-- the prefixes of rules
abbrev pub prefixes_of : List Rule → List Block
prefixes_of rules = map (λ r. r.key.pattern.dst) rules
