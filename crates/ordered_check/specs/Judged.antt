-- What is found of one class in a round of an ordered plan.
use Rattle.std.specs.Prelude.{◌≡◌, ◌⊎◌, ℕ, ◌<◌, ◌≤◌, List, slice_get, Some}
use Rattle.net_base.specs.declared.ids.SwitchId.{SwitchId}
use Rattle.acyclic_numbering.specs.Heights.{IsEdge, IsLower}
use Rattle.acyclic_numbering.specs.declared.Edge.{Edge}
use Rattle.waypoint_evidence.specs.Befores.{Holds, HoldsEarlier, IsFirst}
use Rattle.certificates.specs.Ordered.{Position}
use Rattle.ordered_check.specs.declared.ways.WayRound.{WayRound}

-- an edge from the switch goes to no lower number
abbrev pub HasEdgeUp : List Edge → List ℕ → SwitchId → Type 0
HasEdgeUp edges numbers s = (t : SwitchId) × IsEdge edges s t × ¬ IsLower numbers s t

-- an edge leaves the set otherwise than from outside the set before to the waypoint
abbrev pub Strays : Position → Edge → Type 0
Strays p edge =
    Holds p.set edge.from × (¬ Holds p.set edge.to) × ¬ ((¬ HoldsEarlier p.earlier edge.from) × (edge.to ≡ p.waypoint))

-- an edge from the switch strays
abbrev pub HasStray : List Edge → Position → SwitchId → Type 0
HasStray edges p s = (t : SwitchId) × IsEdge edges s t × Strays p (record { from = s; to = t })

-- the position isn't guarded at the switch, for a start, edges and switches where a packet may leave
abbrev pub IsWayRound : SwitchId → (SwitchId → SwitchId → Type 0) → (SwitchId → Type 0) → Position → SwitchId → Type 0
IsWayRound start edge leaves p s =
    ((s ≡ start) × ¬ (Holds p.set s ⊎ (IsFirst p.earlier × (s ≡ p.waypoint))))
    ⊎ ((Holds p.set s × leaves s)
    ⊎ ((t : SwitchId) × Holds p.set s × edge s t × (¬ Holds p.set t) × ¬ ((¬ HoldsEarlier p.earlier s) × (t ≡ p.waypoint))))

-- each of so many positions is guarded
abbrev pub AreGuardedBelow : (Position → SwitchId → Type 0) → List Position → ℕ → Type 0
AreGuardedBelow around positions below =
    (i : ℕ) (p : Position) (s : SwitchId) → i < below → slice_get positions i ≡ Some p → ¬ around p s

-- the first position that isn't guarded, by its waypoint, and the least switch at which it isn't
pub record IsFirstWayRound (around : Position → SwitchId → Type 0) (positions : List Position) (found : WayRound) : Type 0 where
  pub place : ℕ
  pub position : Position
  pub is : slice_get positions place ≡ Some position
  pub waypoint_is : position.waypoint ≡ found.waypoint
  pub here : around position found.switch
  pub least : (s : SwitchId) → around position s → found.switch.0 ≤ s.0
  pub earlier : AreGuardedBelow around positions place
