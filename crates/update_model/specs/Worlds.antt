-- A network with rounds, and the state of a run of them.
use Rattle.std.specs.Prelude.{◌≡◌, ℕ, zero, suc, ◌^◌, ◌<◌, ◌≤◌, ◌&&◌, nat_lt, Bool, true, false, List, [], length, count_by, slice_get, Some}
use Rattle.topology.specs.Networks.{Network, switch_count}
use Rattle.update_model.specs.Changes.{Applies, round_after}
use Rattle.std.specs.List.{AllByRecursion}
use Rattle.flow_rules.specs.declared.rules.Rule.{Rule}
use Rattle.update_model.specs.States.{State, IsUnderWay, state_after_event}
use Rattle.update_model.specs.declared.Packet.{Packet}
use Rattle.update_model.specs.declared.Change.{Change}
use Rattle.update_model.specs.declared.Event.{Event}
use Rattle.update_model.specs.declared.Phase.{Phase}
use Rattle.update_model.specs.declared.Phase.TheVariants.{Settled, Running}
use Rattle.path_walk.specs.declared.Ended.{Ended}
use Rattle.path_walk.specs.declared.Ended.TheVariants.{UnderWay}

-- what contracts see of a world
pub record WorldState : Type 0 where
  pub net : Network
  pub rounds : List (List Change)
  pub state : State

-- no more rounds are settled or running than there are, and a running round has a flag for each of its changes
abbrev pub IsPhaseOf : List (List Change) → Phase → List Bool → Type 0
IsPhaseOf rounds (Settled k) flags = k ≤ length rounds
IsPhaseOf rounds (Running zero) flags = ⊥
IsPhaseOf rounds (Running (suc k)) flags = (k < length rounds) × (length flags ≡ length (round_after k rounds))

-- what every world keeps: one table per switch, few rounds, and a phase of them
pub record IsWorld (w : WorldState) : Type 0 where
  pub tables : length w.state.tables ≡ switch_count w.net
  pub few : length w.rounds < 2 ^ 32
  pub phase : IsPhaseOf w.rounds w.state.phase w.state.pending

-- the changes of the running round; none where no round is running
abbrev pub running_round : Phase → List (List Change) → List Change
running_round (Settled k) rounds = []
running_round (Running zero) rounds = []
running_round (Running (suc k)) rounds = round_after k rounds

-- a round is running, and its change i is pending
abbrev pub IsPending : State → ℕ → Type 0
IsPending state i = (k : ℕ) × (state.phase ≡ Running k) × (slice_get state.pending i ≡ Some true)

-- the world after an event
abbrev pub world_after : WorldState → Event → WorldState
world_after w e = record w { state = state_after_event w.net w.rounds w.state e }

-- what a start asks of a phase and of packets
abbrev pub StartsFrom : Phase → List (List Change) → List Packet → Type 0
StartsFrom (Settled k) rounds packets = (k < length rounds) × AllByRecursion (λ p. IsUnderWay p → k ≤ p.born) packets
StartsFrom (Running k) rounds packets = ⊥

-- there is change i of the round, and it applies
abbrev pub AppliesAt : List (List Rule) → List Change → ℕ → Type 0
AppliesAt tables round i = (c : Change) × (slice_get round i ≡ Some c) × Applies tables c

-- what contracts see of the packets: those that entered, and how many rounds are settled
pub record TrafficState : Type 0 where
  pub packets : List Packet
  pub settled : ℕ

-- whether a packet with this end goes on
abbrev pub goes_on : Ended → Bool
goes_on UnderWay = true
goes_on _ = false

-- whether a packet is under way that entered when fewer than k rounds were settled
abbrev pub is_late : ℕ → Packet → Bool
is_late k p = goes_on p.ended && nat_lt p.born k

-- how many packets are under way, and how many of them entered when fewer than k rounds were settled; none entered later than now
pub record AreCounted (packets : List Packet) (k under_way older : ℕ) : Type 0 where
  pub all : under_way ≡ count_by (λ p. goes_on p.ended) packets
  pub late : older ≡ count_by (is_late k) packets
  pub born : AllByRecursion (λ p. p.born ≤ k) packets
