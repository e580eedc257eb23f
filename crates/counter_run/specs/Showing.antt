-- Runs that show a packet whose trace breaks its duties.
use Rattle.std.specs.Prelude.{◌≡◌, ℕ, ◌+◌, ◌*◌, ◌≤◌, List, [], ◌∷◌, ◌++◌, length, map, flat_map, sum_by, take}
use Rattle.std.specs.List.{AllByRecursion}
use Rattle.net_base.specs.Members.{IsPrefix}
use Rattle.net_base.specs.Places.{stop_of}
use Rattle.net_base.specs.declared.ids.Place.{Place}
use Rattle.topology.specs.Networks.{Network, switch_count}
use Rattle.dest_classes.specs.declared.Class.{Class}
use Rattle.demands.specs.Duties.{DemandView, duties_of}
use Rattle.demands.specs.Good.{IsGood}
use Rattle.update_model.specs.Changes.{round_after}
use Rattle.update_model.specs.Mixtures.{Rollout}
use Rattle.update_model.specs.Runs.{IsRun, state_after_run}
use Rattle.update_model.specs.declared.Change.{Change}
use Rattle.update_model.specs.declared.Event.{Event}
use Rattle.update_model.specs.declared.Event.TheVariants as event
use Rattle.update_model.specs.declared.Packet.{Packet}
use Rattle.certificates.specs.Consistent.{trace_of}
use Rattle.net_base.specs.Numbers.{numbers_from}
use Rattle.outcome_changes.specs.Giving.{IsChangeAt}
use Rattle.breaking_walks.specs.Rounds.{round_rollout}
use Rattle.counter_run.specs.declared.showing.ShownRound.{ShownRound}

-- a hop at a place, and the changes that are made before it, by their numbers
pub record HopStep : Type 0 where
  pub place : Place
  pub changes : List ℕ

-- its events: the changes, and a hop of packet 0
abbrev pub step_events : HopStep → List Event
step_events s = map event.Change s.changes ++ event.Hop 0 ∷ []

-- a round that is carried out whole, its changes ascending
abbrev pub whole_round : List Change → List Event
whole_round round = event.Start ∷ map event.Change (numbers_from 0 (length round)) ++ event.Settle ∷ []

-- such rounds, one after the other
abbrev pub whole_rounds : List (List Change) → List Event
whole_rounds rounds = flat_map whole_round rounds

-- the trace of the packet is good for its duties
abbrev pub HasGoodTrace : List DemandView → Packet → Type 0
HasGoodTrace demands p = IsGood (duties_of demands p.entry p.dst) (trace_of p)

-- A run that shows how a packet of the class breaks its duties in a round. The rounds before are carried out whole; then the round starts,
-- the packet enters, and each change that is made after that is at the switch of the hop before which it stands. There is no other packet.
-- Its trace breaks its duties after the last event, and not before.
pub record IsBreakingRun (u : Rollout) (demands : List DemandView) (k : ℕ) (class : Class) (events : List Event) : Type 0 where
  pub steps : List HopStep
  pub events_are : events ≡ whole_rounds (take k u.rounds) ++ event.Start ∷ event.Enter class.entry class.first ∷ flat_map step_events steps
  pub there : AllByRecursion (λ s. AllByRecursion (IsChangeAt (round_after k u.rounds) s.place.switch) s.changes) steps
  pub run : IsRun u events
  pub packet : Packet
  pub only : (state_after_run u events).packets ≡ packet ∷ []
  pub entered : (packet.entry ≡ class.entry) × (packet.dst ≡ class.first)
  pub places : IsPrefix (map (λ s. stop_of s.place) steps) packet.visits
  pub bad : ¬ HasGoodTrace demands packet
  pub not_before : (before : List Event) (e : Event) (after : List Event) → events ≡ before ++ e ∷ after
      → AllByRecursion (HasGoodTrace demands) (state_after_run u before).packets

-- no more events than the changes of all rounds, a start and an end of each, the entry, and a hop for each switch
abbrev pub AreFewFor : Network → List (List Change) → List Event → Type 0
AreFewFor net rounds events = length events ≤ sum_by length rounds + 2 * length rounds + switch_count net + 1

-- the update of a stage
abbrev pub shown_rollout : ShownRound → Rollout
shown_rollout stage = round_rollout stage.round
