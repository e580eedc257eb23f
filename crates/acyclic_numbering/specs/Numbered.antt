-- Numbering switches one by one, each after all that its edges lead to.
use Rattle.std.specs.Prelude.{◌≡◌, ◌⊎◌, ℕ, zero, suc, ◌+◌, ◌<◌, ◌≤◌, Bool, true, false, List, [], ◌∷◌, ◌++◌, length, set, drop, slice_get, slice_index_or, Some}
use Rattle.net_base.specs.Members.{IsIn}
use Rattle.net_base.specs.Walks.{IsWalk, end_of}
use Rattle.net_base.specs.declared.ids.SwitchId.{SwitchId}
use Rattle.acyclic_numbering.specs.Heights.{IsHeight, AreHeights, IsCycle, number_of}
use Rattle.acyclic_numbering.specs.declared.Edge.{Edge}
use Rattle.acyclic_numbering.specs.declared.Numbered.{Numbered}
use Rattle.acyclic_numbering.specs.declared.Numbered.TheVariants.{Heights, Cycle}

-- the switch has no number yet
abbrev pub IsOpen : List Bool → SwitchId → Type 0
IsOpen open_marks s = slice_index_or open_marks s.0 false ≡ true

-- how many switches have no number yet
abbrev pub open_count : List Bool → ℕ
open_count [] = zero
open_count (true ∷ marks) = suc (open_count marks)
open_count (false ∷ marks) = open_count marks

-- no edge of the switch leads to one without a number
abbrev pub IsNumberable : (SwitchId → SwitchId → Type 0) → List Bool → SwitchId → Type 0
IsNumberable edge open_marks s = (t : SwitchId) → edge s t → ¬ IsOpen open_marks t

-- one more than the greatest number that an edge of the switch leads to, 0 where it has none
pub record IsNextNumber (edge : SwitchId → SwitchId → Type 0) (numbers : List ℕ) (s : SwitchId) (number : ℕ) : Type 0 where
  pub above : (t : SwitchId) → edge s t → number_of numbers t < number
  pub reached : (number ≡ 0) ⊎ ((t : SwitchId) × edge s t × (number ≡ number_of numbers t + 1))

-- the number, raised above the one to which the edge leads, if it is an edge of the switch
pub record IsRaised (numbers : List ℕ) (s : SwitchId) (edge : Edge) (number raised : ℕ) : Type 0 where
  pub above : number ≤ raised
  pub past : (edge.from ≡ s) → number_of numbers edge.to < raised
  pub reached : (raised ≡ number) ⊎ ((edge.from ≡ s) × (raised ≡ number_of numbers edge.to + 1))

-- the numbers as before, or that of the switch which the edge leaves raised to one more than that to which it leads
abbrev pub IsRaisedAlong : Edge → List ℕ → List ℕ → Type 0
IsRaisedAlong edge old new = (new ≡ old) ⊎ ((number_of old edge.from ≤ number_of old edge.to) × (new ≡ set old edge.from.0 (number_of old edge.to + 1)))

-- each number is 0, or at most one more than one to which an edge of its switch leads
pub record AreReached (edge : SwitchId → SwitchId → Type 0) (numbers : List ℕ) : Type 0 where
  pub each : (s : SwitchId) → (number_of numbers s ≡ 0) ⊎ ((t : SwitchId) × edge s t × number_of numbers s ≤ number_of numbers t + 1)

-- the numbers so far are heights, and are below the count of switches that have one
pub record AreHeightsSoFar (edge : SwitchId → SwitchId → Type 0) (open_marks : List Bool) (numbers : List ℕ) : Type 0 where
  pub count : length numbers ≡ length open_marks
  pub each : (s : SwitchId) → s.0 < length open_marks → ¬ IsOpen open_marks s → IsHeight edge s (number_of numbers s)
  pub low : (s : SwitchId) → s.0 < length open_marks → ¬ IsOpen open_marks s → number_of numbers s + open_count open_marks < length open_marks

-- the switches of a walk from a place of this one on, and then this one again
pub record IsClosedAt (s : SwitchId) (walk closed : List SwitchId) : Type 0 where
  pub place : ℕ
  pub at : slice_get walk place ≡ Some s
  pub is : closed ≡ drop place walk ++ s ∷ []

-- a closed walk: its first switch stands at its end again
pub record IsClosedWalk (edge : SwitchId → SwitchId → Type 0) (switches : List SwitchId) : Type 0 where
  pub start : SwitchId
  pub next : SwitchId
  pub rest : List SwitchId
  pub is : switches ≡ start ∷ next ∷ rest
  pub cycle : IsCycle edge start next rest

-- the heights, or a closed walk of edges
abbrev pub IsNumbered : (SwitchId → SwitchId → Type 0) → ℕ → Numbered → Type 0
IsNumbered edge switches (Heights numbers) = AreHeights edge switches numbers
IsNumbered edge switches (Cycle walk) = IsClosedWalk edge walk

-- each switch without a number has an edge to one without a number
abbrev pub IsStuck : (SwitchId → SwitchId → Type 0) → List Bool → Type 0
IsStuck edge open_marks = (s : SwitchId) → IsOpen open_marks s → ¬ IsNumberable edge open_marks s

-- a walk from its first switch that ends at a switch without a number, and with the marks of those that are left
pub record IsWalkedSoFar (edge : SwitchId → SwitchId → Type 0) (open_marks left : List Bool) (at : SwitchId) (switches : List SwitchId) : Type 0 where
  pub start : SwitchId
  pub rest : List SwitchId
  pub is : switches ≡ start ∷ rest
  pub walk : IsWalk edge start rest
  pub ends : end_of start rest ≡ at
  pub at_open : IsOpen open_marks at
  pub count : length left ≡ length open_marks
  pub seen : (t : SwitchId) → IsOpen open_marks t → IsOpen left t ⊎ IsIn t switches
