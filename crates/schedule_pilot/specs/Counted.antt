-- What is offered where each pending change may be made.
use Rattle.std.specs.Prelude.{◌≡◌, ◌⊎◌, ℕ, Bool, List, [], ◌∷◌, ◌++◌, map, Option, Some, None}
use Rattle.update_model.specs.States.{State, IsEnabled}
use Rattle.update_model.specs.Worlds.{WorldState}
use Rattle.update_model.specs.declared.Event.{Event}
use Rattle.update_model.specs.declared.Event.TheVariants as event
use Rattle.schedule_pilot.specs.Offered.{next_entry}
use Rattle.schedule_pilot.specs.Agendas.{numbers_under_way}
use Rattle.schedule_pilot.specs.declared.Entry.{Entry}

-- the flags are those of the pending changes, and the list names the packets that are under way
pub record IsCounted (state : State) (pending : List Bool) (under_way : List ℕ) : Type 0 where
  pub pending_are : pending ≡ state.pending
  pub under_way_are : under_way ≡ numbers_under_way state.packets

-- the start or the settling of a round that may happen, none where neither may
abbrev pub IsDue : WorldState → Option Event → Type 0
IsDue w None = (¬ IsEnabled w.net w.rounds w.state event.Start) × (¬ IsEnabled w.net w.rounds w.state event.Settle)
IsDue w (Some e) = IsEnabled w.net w.rounds w.state e × ((e ≡ event.Start) ⊎ (e ≡ event.Settle))

-- what comes first: what is due, or else these changes
abbrev pub first_events : Option Event → List ℕ → List Event
first_events (Some e) changes = e ∷ []
first_events None changes = map event.Change changes

-- all that is offered: what comes first, the next entry, the hops of these packets
abbrev pub offered_events : Option Event → List ℕ → List Entry → List ℕ → List Event
offered_events due changes entries under_way = first_events due changes ++ next_entry entries ++ map event.Hop under_way
