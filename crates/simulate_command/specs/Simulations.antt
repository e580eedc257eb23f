-- Simulations: driven runs of a plan, with packets of the classes in turn.
use Rattle.std.specs.Prelude.{◌≡◌, ◌==◌, ℕ, ◌+◌, ◌*◌, ◌%◌, ◌^◌, ◌≤◌, List, length, slice_get, Some, Ok, if◌then◌else◌}
use Rattle.dest_classes.specs.Classes.{ClassList, IsClass, class_count}
use Rattle.dest_classes.specs.declared.Class.{Class}
use Rattle.update_model.specs.Mixtures.{Rollout}
use Rattle.update_model.specs.Worlds.{WorldState}
use Rattle.update_model.specs.declared.Event.{Event}
use Rattle.certificates.specs.Updates.{Task, rollout}
use Rattle.certificates.specs.Certified.{classes_for}
use Rattle.schedule_pilot.specs.Driving.{IsRunFrom, IsOverAfter}
use Rattle.schedule_pilot.specs.Laws.{world_begun}
use Rattle.schedule_pilot.specs.Offered.{full_budget}
use Rattle.schedule_pilot.specs.declared.Entry.{Entry}
use Rattle.schedule_replay.specs.Schedules.{schedule_in, numbered_lines}
use Rattle.schedule_replay.specs.Traces.{record_text}

-- which of so many offered events is made at a step: START and 7 times the step, in arithmetic of 64 bits that wraps, modulo their count
abbrev pub place_named : ℕ → ℕ → ℕ → ℕ
place_named start step count = (start + 7 * step) % 2 ^ 64 % count

-- START names this event of so many at a step
abbrev pub Names : ℕ → ℕ → ℕ → ℕ → Type 0
Names start step count place = place ≡ place_named start step count

-- a packet of class n, to the first address of its atom
pub record IsEntryFor (classes : ClassList) (n : ℕ) (entry : Entry) : Type 0 where
  pub class : Class
  pub is_class : IsClass classes n class
  pub is : entry ≡ record { place = class.entry; dst = class.first }

-- so many packets of the classes in turn, from class 0 on; none where there is no class
pub record IsTraffic (classes : ClassList) (count : ℕ) (entries : List Entry) : Type 0 where
  pub many : length entries ≡ (if class_count classes == 0 then 0 else count)
  pub each : (i : ℕ) (entry : Entry) → slice_get entries i ≡ Some entry → IsEntryFor classes (i % class_count classes) entry

-- A run of the update's rounds from the old tables, driven by START over the packets, within the budget, that is over after its
-- events. `after` is the network then.
pub record IsRunToEnd (start : ℕ) (u : Rollout) (entries : List Entry) (events : List Event) (after : WorldState) : Type 0 where
  pub run : IsRunFrom (world_begun u) (Names start) entries events after
  pub within : length events ≤ full_budget u entries
  pub over : IsOverAfter (world_begun u) entries events

-- a simulation with START and COUNT: such a run, over COUNT packets of the classes
pub record IsSimulation (start count : ℕ) (t : Task) (events : List Event) (after : WorldState) : Type 0 where
  pub entries : List Entry
  pub traffic : IsTraffic (classes_for t) count entries
  pub course : IsRunToEnd start (rollout t) entries events after

-- The text is the record of a simulation: its events, a line each, and the traces of its packets as comments. Read as a schedule it
-- means these events.
pub record IsRecord (start count : ℕ) (t : Task) (text : List ℕ) : Type 0 where
  pub events : List Event
  pub after : WorldState
  pub simulation : IsSimulation start count t events after
  pub text_is : text ≡ record_text t.update.net events after
  pub means : schedule_in t.update.net text ≡ Ok (numbered_lines 1 events)
