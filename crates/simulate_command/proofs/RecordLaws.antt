-- The record of a driven run of a plan's world.
use Rattle.std.proofs.Common.{◌≡◌, ℕ, ◌≤◌, List, length, subst}
use Rattle.std.specs.Prelude.{Ok}
use Rattle.dest_classes.specs.Classes.{ClassList}
use Rattle.update_model.specs.Worlds.{WorldState}
use Rattle.update_model.specs.declared.Event.{Event}
use Rattle.certificates.specs.Updates.{Task, rollout}
use Rattle.certificates.specs.Certified.{classes_for}
use Rattle.schedule_pilot.specs.Driving.{IsRunFrom, IsOverAfter, world_rollout}
use Rattle.schedule_pilot.specs.Ends.{AreEntries}
use Rattle.schedule_pilot.specs.Laws.{world_begun}
use Rattle.schedule_pilot.specs.Offered.{full_budget}
use Rattle.schedule_pilot.specs.declared.Entry.{Entry}
use Rattle.schedule_replay.specs.Schedules.{schedule_in, numbered_lines}
use Rattle.schedule_replay.specs.Traces.{record_text}
use Rattle.simulate_command.specs.Simulations.{Names, IsTraffic, IsRecord}
use Rattle.simulate_command.proofs.TrafficLaws.{traffic_enters}

module _ (t : Task) (classes : ClassList) (classes_is : classes ≡ classes_for t) (count : ℕ) (entries : List Entry) (traffic : IsTraffic classes count entries) (w : WorldState) (is : w ≡ world_begun (rollout t)) where
  traffic_of : IsTraffic (classes_for t) count entries
  traffic_of = subst (λ (c : ClassList). IsTraffic c count entries) classes_is traffic

  pub packets_enter : AreEntries t.update.net entries
  packets_enter = traffic_enters t.update.net (classes_for t).prefixes count entries traffic_of

  pub record_of : (start : ℕ) (events : List Event) (after : WorldState) → IsRunFrom w (Names start) entries events after → length events ≤ full_budget (world_rollout w) entries → IsOverAfter w entries events
      → (text : List ℕ) → text ≡ record_text t.update.net events after → schedule_in t.update.net text ≡ Ok (numbered_lines 1 events) → IsRecord start count t text
  record_of start events after run within over text text_is means = record {
    events = events;
    after = after;
    simulation = record {
      entries = entries;
      traffic = traffic_of;
      course = record {
        run = subst (λ (x : WorldState). IsRunFrom x (Names start) entries events after) is run;
        within = subst (λ (x : WorldState). length events ≤ full_budget (world_rollout x) entries) is within;
        over = subst (λ (x : WorldState). IsOverAfter x entries events) is over;
      };
    };
    text_is = text_is;
    means = means;
  }
