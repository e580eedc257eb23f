-- What a driven run is, how it ends, and when it is sure to be over.
use Rattle.std.specs.Prelude.{◌≡◌, ◌↔◌, ◌==◌, Bool, cond, Option, Some, None, ℕ, ◌^◌, ◌<◌, ◌≤◌, List, [], length}
use Rattle.update_model.specs.Mixtures.{Rollout, AreGoodRounds}
use Rattle.update_model.specs.Runs.{state_after, AreEnabled}
use Rattle.update_model.specs.States.{first_state}
use Rattle.update_model.specs.Worlds.{WorldState}
use Rattle.update_model.specs.declared.Event.{Event}
use Rattle.schedule_pilot.specs.Offered.{AreOffered, IsDriven, IsOver}
use Rattle.schedule_pilot.specs.Ends.{AllVisitOnce, entries_left}
use Rattle.schedule_pilot.specs.declared.Entry.{Entry}
use Rattle.schedule_pilot.specs.declared.Ending.{Ending}
use Rattle.schedule_pilot.specs.declared.Ending.TheVariants.{Finished, OutOfBudget, Blocked}

-- a chooser may be asked at every step about any number of events, and names one of them
abbrev pub IsPilot : (ℕ → ℕ → Type 0) → (ℕ → ℕ → ℕ → Type 0) → Type 0
IsPilot pre post = (n count : ℕ) → n < 2 ^ 64 → 1 ≤ count → count < 2 ^ 64 → pre n count × ((i : ℕ) → post n count i → i < count)

-- the rounds of a world as an update of its present tables
abbrev pub world_rollout : WorldState → Rollout
world_rollout w = record { net = w.net; old = w.state.tables; rounds = w.rounds }

-- the world after events
abbrev pub world_after_all : WorldState → List Event → WorldState
world_after_all w events = record w { state = state_after w.net w.rounds w.state events }

-- the run is over after the events
abbrev pub IsOverAfter : WorldState → List Entry → List Event → Type 0
IsOverAfter w entries events = IsOver (world_rollout w) (state_after w.net w.rounds w.state events) (entries_left events entries)

-- nothing is offered after the events
abbrev pub NoneIsOffered : WorldState → List Entry → List Event → Type 0
NoneIsOffered w entries events = AreOffered (world_rollout w) (state_after w.net w.rounds w.state events) (entries_left events entries) []

-- a run from a world: each event is the offered one that was named, and the world is the one after them
pub record IsRunFrom (w : WorldState) (chooses : ℕ → ℕ → ℕ → Type 0) (entries : List Entry) (events : List Event) (after : WorldState) : Type 0 where
  pub driven : IsDriven (world_rollout w) chooses 0 w.state entries events
  pub enabled : AreEnabled w.net w.rounds w.state events
  pub world : after ≡ world_after_all w events

-- when a driven run has each of its endings
pub record HasEnding (w : WorldState) (entries : List Entry) (budget : ℕ) (events : List Event) (ending : Ending) : Type 0 where
  pub short : length events ≤ budget
  pub finished : ending ≡ Finished ↔ IsOverAfter w entries events
  pub blocked : ending ≡ Blocked ↔ (¬ IsOverAfter w entries events) × NoneIsOffered w entries events
  pub spent : ending ≡ OutOfBudget → (length events ≡ budget) × (¬ IsOverAfter w entries events) × (¬ NoneIsOffered w entries events)

-- a world just begun, all of whose rounds are good, and in whose runs no packet visits a switch twice
pub record BeginsSafely (w : WorldState) : Type 0 where
  pub begun : w.state ≡ first_state w.state.tables
  pub good : AreGoodRounds (world_rollout w)
  pub once : AllVisitOnce (world_rollout w)

-- how a run ends that is over or not, with so many events offered and so many made
abbrev pub ending_at : Bool → ℕ → ℕ → ℕ → Option Ending
ending_at over offered made budget = cond over (Some Finished) (cond (offered == 0) (Some Blocked) (cond (made == budget) (Some OutOfBudget) None))
