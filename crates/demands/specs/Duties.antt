-- Demands, and the duties of an entry and an address: the chains of waypoints, and whether the packet must arrive.
use Rattle.std.specs.Prelude.{ℕ, ◌==◌, ◌&&◌, not, Bool, true, false, cond, nat_lt, List, [], ◌∷◌, map, filter, Option}
use Rattle.std.specs.List.{list_any}
use Rattle.std.specs.Option.{option_map_or}
use Rattle.net_base.specs.Blocks.{Block, in_block}
use Rattle.net_base.specs.Places.{stop_of}
use Rattle.net_base.specs.declared.ids.Place.{Place}
use Rattle.net_base.specs.declared.ids.Stop.{Stop}
use Rattle.net_base.specs.declared.ids.SwitchId.{SwitchId}
use Rattle.topology.specs.Networks.{stop_eq}
use Rattle.flow_rules.specs.declared.rules.VlanTest.{VlanTest}
use Rattle.flow_rules.specs.Patterns.{admits_vlan}
use Rattle.dest_classes.specs.Classes.{ClassList}

-- a demand: its host ports, each once, where it names any; its waypoints in the order of visit
pub record DemandView : Type 0 where
  pub from : Option (List Stop)
  pub vlan : VlanTest
  pub dst : Block
  pub through : List SwitchId
  pub deliver : Bool

-- the duties of each class: the demands, and the classes
pub record ClassDuties : Type 0 where
  pub demands : List DemandView
  pub classes : ClassList

-- what is asked of a packet
pub record PacketDuties : Type 0 where
  pub chains : List (List SwitchId)
  pub arrive : Bool

-- whether an entry is at one of the host ports; where none are named, any is
abbrev pub admits_entry : Option (List Stop) → Place → Bool
admits_entry from entry = option_map_or (λ stops. list_any (λ s. stop_eq s (stop_of entry)) stops) from true

-- whether a demand covers an entry and an address: its host ports, if it names any, its VLAN test and its prefix do
abbrev pub demand_covers : DemandView → Place → ℕ → Bool
demand_covers d entry dst = admits_entry d.from entry && admits_vlan d.vlan entry.vlan && in_block d.dst dst

-- the demands that cover an entry and an address
abbrev pub demands_on : List DemandView → Place → ℕ → List DemandView
demands_on demands entry dst = filter (λ d. demand_covers d entry dst) demands

-- each switch of the list where it stands first
abbrev pub first_of_each : List SwitchId → List SwitchId
first_of_each [] = []
first_of_each (s ∷ rest) = s ∷ filter (λ t. not (t.0 == s.0)) (first_of_each rest)

-- whether one chain comes before another: the first differing switch decides, and a shorter one comes before what goes on from it
abbrev pub chain_lt : List SwitchId → List SwitchId → Bool
chain_lt [] [] = false
chain_lt [] (t ∷ ts) = true
chain_lt (s ∷ ss) [] = false
chain_lt (s ∷ ss) (t ∷ ts) = cond (s.0 == t.0) (chain_lt ss ts) (nat_lt s.0 t.0)

-- the chain put into an ascending list, once; an empty one is left out
abbrev pub with_chain : List SwitchId → List (List SwitchId) → List (List SwitchId)
with_chain [] chains = chains
with_chain (s ∷ ss) [] = (s ∷ ss) ∷ []
with_chain (s ∷ ss) (c ∷ cs) =
    cond (chain_lt (s ∷ ss) c) ((s ∷ ss) ∷ c ∷ cs) (cond (chain_lt c (s ∷ ss)) (c ∷ with_chain (s ∷ ss) cs) (c ∷ cs))

-- the chains that are not empty, ascending and each once
abbrev pub ascending_chains : List (List SwitchId) → List (List SwitchId)
ascending_chains [] = []
ascending_chains (c ∷ cs) = with_chain c (ascending_chains cs)

-- the duties of an entry and an address
abbrev pub duties_of : List DemandView → Place → ℕ → PacketDuties
duties_of demands entry dst = record {
  chains = ascending_chains (map (λ d. first_of_each d.through) (demands_on demands entry dst));
  arrive = list_any (λ d. d.deliver) (demands_on demands entry dst);
}
