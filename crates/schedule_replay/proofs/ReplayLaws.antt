-- One event more of a schedule.
use Rattle.std.proofs.Common.{◌≡◌, ℕ, ◌+◌, ◌<◌, List, [], ◌∷◌, ◌++◌, length, get_or, take, drop, refl, sym, ap, ◌∙◌, subst, append_assoc}
use Rattle.std.proofs.lemmas.List.{take_more, drop_more, map_push}
use Rattle.topology.specs.Networks.{Network}
use Rattle.update_model.specs.Runs.{AreEnabled, state_after}
use Rattle.update_model.specs.States.{State, IsEnabled, state_after_event}
use Rattle.update_model.specs.Worlds.{WorldState, world_after}
use Rattle.update_model.specs.declared.Change.{Change}
use Rattle.update_model.specs.declared.Event.{Event}
use Rattle.schedule_replay.specs.declared.schedule.ScheduleLine.{ScheduleLine}
use Rattle.schedule_replay.specs.Schedules.{events_of}
use Rattle.schedule_replay.specs.Replays.{IsCarriedOut}

module _ (net : Network) (rounds : List (List Change)) where
  pub enabled-push : (s : State) (es : List Event) (e : Event) → AreEnabled net rounds s es → IsEnabled net rounds (state_after net rounds s es) e → AreEnabled net rounds s (es ++ e ∷ [])
  enabled-push s [] e h last = (last, tt)
  enabled-push s (x ∷ es) e h last = (h.0, enabled-push (state_after_event net rounds s x) es e h.1 last)

  pub state-push : (s : State) (es : List Event) (e : Event) → state_after net rounds s (es ++ e ∷ []) ≡ state_after_event net rounds (state_after net rounds s es) e
  state-push s [] e = refl
  state-push s (x ∷ es) e = state-push (state_after_event net rounds s x) es e

module _ (old mid new : WorldState) (schedule first rest : List ScheduleLine) (line : ScheduleLine) (before : IsCarriedOut old mid schedule first (line ∷ rest)) where
  pub carried-push : IsEnabled mid.net mid.rounds mid.state line.event → new ≡ world_after mid line.event → IsCarriedOut old new schedule (first ++ line ∷ []) rest
  carried-push enabled happens =
      let es : List Event = events_of first in
      let events : events_of (first ++ line ∷ []) ≡ es ++ line.event ∷ [] = map_push (λ (l : ScheduleLine). l.event) first line in
      let here : IsEnabled old.net old.rounds (state_after old.net old.rounds old.state es) line.event =
      subst (λ (w : WorldState). IsEnabled w.net w.rounds w.state line.event) before.after enabled in
      let made : new ≡ record old { state = state_after_event old.net old.rounds (state_after old.net old.rounds old.state es) line.event } =
      happens ∙ ap (λ (w : WorldState). world_after w line.event) before.after in
      record {
        parts = before.parts ∙ sym (append_assoc first (line ∷ []) rest);
        enabled = rw events (enabled-push old.net old.rounds old.state es line.event before.enabled here);
        after = made ∙ ap (λ (s : State). let w : WorldState = record old { state = s } in w) (sym (state-push old.net old.rounds old.state es line.event)
            ∙ ap (state_after old.net old.rounds old.state) (sym events));
      }

-- the same by places
module _ (old mid new : WorldState) (schedule : List ScheduleLine) (i : ℕ) (d : ScheduleLine) (lt : i < length schedule) where
  abbrev line : ScheduleLine
  line = get_or schedule i d

  pub carried_more : IsCarriedOut old mid schedule (take i schedule) (drop i schedule) → IsEnabled mid.net mid.rounds mid.state line.event → new ≡ world_after mid line.event
      → IsCarriedOut old new schedule (take (i + 1) schedule) (drop (i + 1) schedule)
  carried_more before enabled happens =
      let parted : IsCarriedOut old mid schedule (take i schedule) (line ∷ drop (i + 1) schedule) =
      subst (λ (xs : List ScheduleLine). IsCarriedOut old mid schedule (take i schedule) xs) (drop_more schedule i d lt) before in
      rw (take_more schedule i d lt) (carried-push old mid new schedule (take i schedule) (drop (i + 1) schedule) line parted enabled happens)
