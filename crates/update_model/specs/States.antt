-- The state of a network while an update runs, and what each event does to it.
use Rattle.std.specs.Prelude.{◌≡◌, ◌^◌, ℕ, zero, suc, ◌<◌, ◌≤◌, Bool, true, false, List, [], ◌∷◌, ◌++◌, length, replicate, slice_get, slice_index_or, slice_set, Some}
use Rattle.std.specs.Option.{option_map_or}
use Rattle.std.specs.List.{AllByRecursion}
use Rattle.net_base.specs.Places.{stop_of}
use Rattle.net_base.specs.declared.ids.Place.{Place}
use Rattle.topology.specs.Networks.{Network, IsEntry}
use Rattle.flow_rules.specs.declared.rules.Rule.{Rule}
use Rattle.path_walk.specs.Paths.{ended_by, outcome_in}
use Rattle.path_walk.specs.declared.Outcome.{Outcome}
use Rattle.path_walk.specs.declared.Outcome.TheVariants.{Go}
use Rattle.path_walk.specs.declared.Ended.TheVariants.{UnderWay, Lost}
use Rattle.update_model.specs.Changes.{Applies, tables_after_change}
use Rattle.update_model.specs.declared.Change.{Change}
use Rattle.update_model.specs.declared.Packet.{Packet}
use Rattle.update_model.specs.declared.Phase.{Phase}
use Rattle.update_model.specs.declared.Phase.TheVariants.{Settled, Running}
use Rattle.update_model.specs.declared.Event.{Event}
use Rattle.update_model.specs.declared.Event.TheVariants as event

-- a phase, the tables, which changes of the running round are pending, and the packets in the order of entry
pub record State : Type 0 where
  pub phase : Phase
  pub tables : List (List Rule)
  pub pending : List Bool
  pub packets : List Packet

-- the first state: the old tables and no packets
abbrev pub first_state : List (List Rule) → State
first_state old = record { phase = Settled 0; tables = old; pending = []; packets = [] }

-- a packet is under way if it has no end
abbrev pub IsUnderWay : Packet → Type 0
IsUnderWay p = p.ended ≡ UnderWay

-- how many rounds are settled
abbrev pub settled_count : Phase → ℕ
settled_count (Settled k) = k
settled_count (Running zero) = 0
settled_count (Running (suc k)) = k

-- there is packet i, and it is under way
abbrev pub IsHopping : List Packet → ℕ → Type 0
IsHopping packets i = (p : Packet) × (slice_get packets i ≡ Some p) × (p.ended ≡ UnderWay)

-- a round may start: the last one is settled, there is one more, and no older packet is under way
pub record MayStart (rounds : List (List Change)) (state : State) : Type 0 where
  pub k : ℕ
  pub settled : state.phase ≡ Settled k
  pub more : k < length rounds
  pub none_older : AllByRecursion (λ p. p.ended ≡ UnderWay → k ≤ p.born) state.packets

-- change i of the running round may be made
pub record MayChange (rounds : List (List Change)) (state : State) (i : ℕ) : Type 0 where
  pub k : ℕ
  pub running : state.phase ≡ Running (suc k)
  pub change : Change
  pub is : slice_get (slice_index_or rounds k []) i ≡ Some change
  pub pending : slice_get state.pending i ≡ Some true
  pub applies : Applies state.tables change

-- the running round is carried out
pub record MaySettle (state : State) : Type 0 where
  pub k : ℕ
  pub running : state.phase ≡ Running k
  pub none_pending : AllByRecursion (λ p. p ≡ false) state.pending

-- when an event may happen
abbrev pub IsEnabled : Network → List (List Change) → State → Event → Type 0
IsEnabled net rounds state event.Start = MayStart rounds state
IsEnabled net rounds state (event.Change i) = MayChange rounds state i
IsEnabled net rounds state event.Settle = MaySettle state
IsEnabled net rounds state (event.Enter place dst) = IsEntry net place × (dst < 2 ^ 32)
IsEnabled net rounds state (event.Hop i) = IsHopping state.packets i
IsEnabled net rounds state (event.Lose i) = IsHopping state.packets i

-- a packet that enters when k rounds are settled
abbrev pub entered_packet : Place → ℕ → ℕ → Packet
entered_packet place dst k = record { entry = place; dst = dst; at = place; born = k; visits = stop_of place ∷ []; ended = UnderWay }

-- a packet after an outcome at its place: it goes on, leaves or is dropped
abbrev pub hopped_packet : Packet → Outcome → Packet
hopped_packet p (Go next) = record p { at = next; visits = p.visits ++ stop_of next ∷ [] }
hopped_packet p found = record p { ended = ended_by p.at found }

-- a packet after it is lost
abbrev pub lost_packet : Packet → Packet
lost_packet p = record p { ended = Lost }

-- the packets after packet i is changed
abbrev pub with_packet : (Packet → Packet) → ℕ → List Packet → List Packet
with_packet f i packets = option_map_or (λ p. slice_set packets i (f p)) (slice_get packets i) packets

-- the phase after the running round is settled
abbrev pub phase_after_settle : Phase → Phase
phase_after_settle (Settled k) = Settled k
phase_after_settle (Running k) = Settled k

-- the state after an event
abbrev pub state_after_event : Network → List (List Change) → State → Event → State
state_after_event net rounds a event.Start =
    record a { phase = Running (suc (settled_count a.phase)); pending = replicate (length (slice_index_or rounds (settled_count a.phase) [])) true }
state_after_event net rounds a (event.Change i) =
    record a { tables = option_map_or (λ c. tables_after_change c a.tables) (slice_get (slice_index_or rounds (settled_count a.phase) []) i) a.tables; pending = slice_set a.pending i false }
state_after_event net rounds a event.Settle = record a { phase = phase_after_settle a.phase }
state_after_event net rounds a (event.Enter place dst) =
    record a { packets = a.packets ++ record { entry = place; dst = dst; at = place; born = settled_count a.phase; visits = stop_of place ∷ []; ended = UnderWay } ∷ [] }
state_after_event net rounds a (event.Hop i) =
    record a { packets = with_packet (λ p. hopped_packet p (outcome_in net a.tables p.at p.dst)) i a.packets }
state_after_event net rounds a (event.Lose i) = record a { packets = with_packet (λ p. record p { ended = Lost }) i a.packets }
