-- The walk along a path up to the first switch that comes again, and the room that it is kept in.
use Rattle.std.specs.Prelude.{◌≡◌, ℕ, ◌<◌, ◌≤◌, ◌==◌, Bool, List, [], ◌∷◌, ◌++◌, map, Vec, vec_capacity}
use Rattle.std.specs.declared.alloc.Global.{Global}
use Rattle.std.specs.List.{list_any}
use Rattle.net_base.specs.Members.{IsIn, IsDistinct}
use Rattle.net_base.specs.Walks.{IsWalk}
use Rattle.net_base.specs.Places.{stop_of}
use Rattle.net_base.specs.Switches.{has, most_switches}
use Rattle.net_base.specs.declared.ids.SwitchId.{SwitchId}
use Rattle.net_base.specs.declared.ids.Place.{Place}
use Rattle.net_base.specs.declared.ids.Stop.{Stop}
use Rattle.net_base.specs.declared.ids.Vlan.{Vlan}
use Rattle.topology.specs.Networks.{Network}
use Rattle.flow_rules.specs.declared.rules.Rule.{Rule}
use Rattle.path_walk.specs.Paths.{IsPath, Forwards}
use Rattle.path_walk.specs.declared.Ended.{Ended}
use Rattle.path_walk.specs.declared.Ended.TheVariants as ended
use Rattle.path_walk.specs.declared.PathEnd.{PathEnd}
use Rattle.path_walk.specs.declared.PathEnd.TheVariants.{Left, Dropped, Repeats}
use Rattle.path_walk.specs.declared.PlacesEnd.{PlacesEnd}
use Rattle.path_walk.specs.declared.PlacesEnd.TheVariants as end

-- a room for the places of a path, made for a network with so many switches
pub record RoomState : Type 0 where
  pub places : List Place
  pub switches : ℕ

-- whether a place of the list is at the switch
abbrev pub is_visited : List Place → SwitchId → Bool
is_visited places s = list_any (λ place. place.switch.0 == s.0) places

-- the stops are those of the places, the set has their switches, and there is room for one place more than there are switches
pub record IsRoom (places : Vec Place Global) (stops : Vec Stop Global) (switches visited : ℕ) : Type 0 where
  pub few : switches ≤ most_switches
  pub places_fit : switches < vec_capacity places
  pub stops_fit : switches < vec_capacity stops
  pub stops_are : stops.items ≡ map stop_of places.items
  pub visits : (s : SwitchId) → has visited s ≡ is_visited places.items s

-- the tables send a packet to the address from the entry on through these places
pub record IsFollowed (net : Network) (tables : List (List Rule)) (entry : Place) (dst : ℕ) (places : List Place) : Type 0 where
  pub rest : List Place
  pub places_are : places ≡ entry ∷ rest
  pub walk : IsWalk (Forwards net tables dst) entry rest

-- the path has these stops and this end, and no switch twice
pub record EndsOnce (net : Network) (tables : List (List Rule)) (entry : Place) (dst : ℕ) (stops : List Stop) (ended : Ended) : Type 0 where
  pub path : IsPath net tables entry dst (record { stops = stops; ended = ended })
  pub distinct : IsDistinct (map (λ stop. stop.switch) stops)

-- these stops are the path up to the first that is at a switch visited before
pub record ComesAgain (net : Network) (tables : List (List Rule)) (entry : Place) (dst : ℕ) (stops : List Stop) (s : SwitchId) : Type 0 where
  pub front : List Place
  pub again : Place
  pub walk : IsWalk (Forwards net tables dst) entry (front ++ again ∷ [])
  pub stops_are : stops ≡ map stop_of (entry ∷ front ++ again ∷ [])
  pub distinct : IsDistinct (map (λ place. place.switch) (entry ∷ front))
  pub seen : IsIn again.switch (map (λ place. place.switch) (entry ∷ front))
  pub is : again.switch ≡ s

-- the path has these stops and ends so, or these are its stops up to the first that comes again
abbrev pub PathEndsAs : Network → List (List Rule) → Place → ℕ → List Stop → PlacesEnd → Type 0
PathEndsAs net tables entry dst stops (end.Left s port vlan) = EndsOnce net tables entry dst stops (ended.Left s port vlan)
PathEndsAs net tables entry dst stops (end.Dropped s) = EndsOnce net tables entry dst stops (ended.Dropped s)
PathEndsAs net tables entry dst stops (end.Again s) = ComesAgain net tables entry dst stops s

-- the walk along the path of an entry and an address has these stops and ends so
abbrev pub WalksTo : Network → List (List Rule) → Place → ℕ → List Stop → PathEnd → Type 0
WalksTo net tables entry dst stops (Left s port) = (vlan : Vlan) × EndsOnce net tables entry dst stops (ended.Left s port vlan)
WalksTo net tables entry dst stops (Dropped s) = EndsOnce net tables entry dst stops (ended.Dropped s)
WalksTo net tables entry dst stops (Repeats s) = ComesAgain net tables entry dst stops s
