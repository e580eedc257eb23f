-- Traces, and the path of a packet while the tables never change.
use Rattle.std.specs.Prelude.{◌≡◌, ℕ, ◌∷◌, List, map}
use Rattle.net_base.specs.Walks.{IsWalk, end_of}
use Rattle.net_base.specs.Places.{stop_of}
use Rattle.net_base.specs.declared.ids.Place.{Place}
use Rattle.net_base.specs.declared.ids.Stop.{Stop}
use Rattle.topology.specs.Networks.{Network}
use Rattle.flow_rules.specs.Tables.{rules_at, lookup}
use Rattle.flow_rules.specs.declared.rules.Rule.{Rule}
use Rattle.path_walk.specs.Outcomes.{action_outcome}
use Rattle.path_walk.specs.declared.Outcome.{Outcome}
use Rattle.path_walk.specs.declared.Outcome.TheVariants.{Discard, Leave, Go}
use Rattle.path_walk.specs.declared.Ended.{Ended}
use Rattle.path_walk.specs.declared.Ended.TheVariants.{UnderWay, Left, Dropped, Lost}

-- the stops of a packet, and its end
pub record Trace : Type 0 where
  pub stops : List Stop
  pub ended : Ended

-- how a packet ends at a place by an outcome there
abbrev pub ended_by : Place → Outcome → Ended
ended_by place Discard = Dropped place.switch
ended_by place (Leave port vlan) = Left place.switch port vlan
ended_by place (Go next) = UnderWay

-- the outcome at a place, in the tables of all switches
abbrev pub outcome_in : Network → List (List Rule) → Place → ℕ → Outcome
outcome_in net tables place dst = action_outcome net place (lookup (record { port = place.port; vlan = place.vlan; dst = dst }) (rules_at tables place.switch))

-- the tables send a packet to the address from the one place to the next
abbrev pub Forwards : Network → List (List Rule) → ℕ → Place → Place → Type 0
Forwards net tables dst place next = outcome_in net tables place dst ≡ Go next

-- a trace that ended: the packet left or was dropped
abbrev pub IsEnd : Ended → Type 0
IsEnd UnderWay = ⊥
IsEnd Lost = ⊥
IsEnd _ = Unit {0}

-- the path of an entry and an address in the tables: outcomes followed until one leaves or discards
pub record IsPath (net : Network) (tables : List (List Rule)) (entry : Place) (dst : ℕ) (trace : Trace) : Type 0 where
  pub rest : List Place
  pub walk : IsWalk (λ place next. outcome_in net tables place dst ≡ Go next) entry rest
  pub stops : trace.stops ≡ map stop_of (entry ∷ rest)
  pub ended : trace.ended ≡ ended_by (end_of entry rest) (outcome_in net tables (end_of entry rest) dst)
  pub ends : IsEnd trace.ended
