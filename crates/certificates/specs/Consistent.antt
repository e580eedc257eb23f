-- Consistent updates: what holds of every packet in every run.
use Rattle.std.specs.Prelude.{◌≡◌, ◌⊎◌, Bool, IsTrue, List}
use Rattle.std.specs.List.{AllByRecursion}
use Rattle.net_base.specs.Members.{IsPrefix}
use Rattle.net_base.specs.declared.ids.SwitchId.{SwitchId}
use Rattle.net_base.specs.declared.ids.Port.{Port}
use Rattle.net_base.specs.declared.ids.Vlan.{Vlan}
use Rattle.topology.specs.Networks.{Network}
use Rattle.flow_rules.specs.declared.rules.Rule.{Rule}
use Rattle.path_walk.specs.Paths.{Trace, IsPath, IsEnd}
use Rattle.path_walk.specs.declared.Ended.TheVariants.{Left}
use Rattle.demands.specs.Good.{MeetsDemands}
use Rattle.update_model.specs.Runs.{AreEnabled, state_after}
use Rattle.update_model.specs.States.{first_state}
use Rattle.update_model.specs.declared.Change.{Change}
use Rattle.update_model.specs.declared.Event.{Event}
use Rattle.update_model.specs.declared.Packet.{Packet}
use Rattle.certificates.specs.Updates.{Update}

-- the trace of a packet
abbrev pub trace_of : Packet → Trace
trace_of p = record { stops = p.visits; ended = p.ended }

-- a packet follows the tables: its stops begin the path of its entry and address in them, and where it left or was dropped its trace is this path
pub record FollowsTables (net : Network) (tables : List (List Rule)) (p : Packet) : Type 0 where
  pub path : Trace
  pub is_path : IsPath net tables p.entry p.dst path
  pub begins : IsPrefix p.visits path.stops
  pub whole : IsEnd p.ended → record { stops = p.visits; ended = p.ended } ≡ path

-- a consistent packet: its trace meets the demands, and under a two-phase plan it follows the old or the new tables and leaves with its entry's VLAN
pub record IsConsistentPacket (u : Update) (two_phase : Bool) (p : Packet) : Type 0 where
  pub good : MeetsDemands u.demands p.entry p.dst (record { stops = p.visits; ended = p.ended })
  pub version : IsTrue two_phase → FollowsTables u.net u.old p ⊎ FollowsTables u.net u.new p
  pub vlan : IsTrue two_phase → (s : SwitchId) (port : Port) (vlan : Vlan) → p.ended ≡ Left s port vlan → vlan ≡ p.entry.vlan

-- an update is consistent by these rounds, those of a two-phase plan or others: each packet is, in every state of every run
abbrev pub IsConsistent : Update → List (List Change) → Bool → Type 0
IsConsistent u rounds two_phase =
    (events : List Event) → AreEnabled u.net rounds (first_state u.old) events
    → AllByRecursion (IsConsistentPacket u two_phase) (state_after u.net rounds (first_state u.old) events).packets
