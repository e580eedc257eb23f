-- Numberings that fall along edges, and the heights of switches.
use Rattle.std.specs.Prelude.{◌≡◌, ℕ, ◌<◌, ◌≤◌, List, ◌∷◌, length, slice_index}
use Rattle.net_base.specs.Members.{IsIn}
use Rattle.net_base.specs.Walks.{IsWalk, end_of}
use Rattle.net_base.specs.declared.ids.SwitchId.{SwitchId}
use Rattle.acyclic_numbering.specs.declared.Edge.{Edge}

-- the edges of a list, as a relation
abbrev pub IsEdge : List Edge → SwitchId → SwitchId → Type 0
IsEdge edges s t = IsIn (record { from = s; to = t }) edges

-- the number of a switch, 0 past the end of the list
abbrev pub number_of : List ℕ → SwitchId → ℕ
number_of numbers s = slice_index numbers s.0

-- the second switch has a lower number
abbrev pub IsLower : List ℕ → SwitchId → SwitchId → Type 0
IsLower numbers s t = number_of numbers t < number_of numbers s

-- each edge goes to a lower number
abbrev pub Falls : (SwitchId → SwitchId → Type 0) → List ℕ → Type 0
Falls edge numbers = (s t : SwitchId) → edge s t → IsLower numbers s t

-- some nonempty walk of edges leads from a switch back to it
pub record IsCycle (edge : SwitchId → SwitchId → Type 0) (start next : SwitchId) (rest : List SwitchId) : Type 0 where
  pub walk : IsWalk edge start (next ∷ rest)
  pub closed : end_of next rest ≡ start

-- the height of a switch: some walk that begins there has so many edges, and none has more
pub record IsHeight (edge : SwitchId → SwitchId → Type 0) (s : SwitchId) (height : ℕ) : Type 0 where
  pub longest : List SwitchId
  pub walk : IsWalk edge s longest
  pub length_is : length longest ≡ height
  pub most : (rest : List SwitchId) → IsWalk edge s rest → length rest ≤ height

-- one height for each of so many switches
pub record AreHeights (edge : SwitchId → SwitchId → Type 0) (switches : ℕ) (numbers : List ℕ) : Type 0 where
  pub count : length numbers ≡ switches
  pub each : (s : SwitchId) → s.0 < switches → IsHeight edge s (number_of numbers s)
