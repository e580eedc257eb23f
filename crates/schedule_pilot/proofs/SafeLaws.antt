-- In a driven run of good rounds each pending change is offered, so the offered events are told by counts.
use Rattle.std.proofs.Common.{◌≡◌, ◌⊎◌, ℕ, zero, suc, ◌+◌, ◌-◌, ◌<◌, Bool, true, false, List, [], ◌∷◌, ◌++◌, map, length, set, get_or, refl, sym, ◌∙◌, subst, ap, inl, inr, arith}
use Rattle.std.specs.Prelude.{slice_get, Option, Some, None}
use Rattle.std.specs.List.{AllByRecursion}
use Rattle.std.proofs.lemmas.Option.{slice_get_within}
use Rattle.net_base.specs.declared.ids.Place.{Place}
use Rattle.topology.specs.Networks.{Network, IsNetwork}
use Rattle.update_model.specs.Changes.{round_after}
use Rattle.update_model.specs.Mixtures.{Rollout, AreGoodRounds}
use Rattle.update_model.specs.States.{State, IsEnabled, IsHopping, settled_count, first_state, state_after_event}
use Rattle.update_model.specs.Runs.{AreEnabled, state_after}
use Rattle.update_model.specs.Worlds.{WorldState, world_after}
use Rattle.update_model.specs.declared.Change.{Change}
use Rattle.update_model.specs.declared.Packet.{Packet}
use Rattle.update_model.specs.declared.Phase.{Phase}
use Rattle.update_model.specs.declared.Phase.TheVariants.{Settled, Running}
use Rattle.update_model.specs.declared.Event.{Event}
use Rattle.update_model.specs.declared.Event.TheVariants as event
use Rattle.update_model.proofs.OneRoundLaws.{TablesAre}
use Rattle.schedule_pilot.specs.Offered.{AreThose, AreOffered, next_entry}
use Rattle.schedule_pilot.specs.Agendas.{numbers_on, numbers_without, IsAgenda, AddsThose}
use Rattle.schedule_pilot.specs.Counted.{IsCounted, IsDue, offered_events}
use Rattle.schedule_pilot.specs.Ends.{AreEntries}
use Rattle.schedule_pilot.specs.Driving.{world_rollout, BeginsSafely}
use Rattle.schedule_pilot.specs.declared.Entry.{Entry}
use Rattle.schedule_pilot.proofs.PendingLaws.{pending_applies}
use Rattle.schedule_pilot.proofs.EndLaws.{Steady, steady_first, reached}
use Rattle.schedule_pilot.proofs.AgendaLaws.{enter_kept, hop_kept, lose_kept}
use Rattle.schedule_pilot.proofs.OfferLaws.{those_all, offered_are, none_on}
use Rattle.schedule_pilot.proofs.DriveLaws.{SoFar, driven_enabled}

-- where no round is running no change is pending
abbrev pub Rests : State → Type 0
Rests st = (k : ℕ) → st.phase ≡ Settled k → numbers_on 0 st.pending ≡ []

rests_first : (st : State) → st ≡ first_state st.tables → Rests st
rests_first st begun k is = ap (λ (s : State). numbers_on 0 s.pending) begun

rests_after : (net : Network) (rounds : List (List Change)) (st : State) (e : Event) → IsEnabled net rounds st e → Rests st → Rests (state_after_event net rounds st e)
rests_after net rounds st event.Start may h = λ k e. absurd (let f : Running (suc (settled_count st.phase)) ≡ Settled k = e in cc)
rests_after net rounds st (event.Change i) may h = λ k e. absurd (let f : Running (suc may.k) ≡ Settled k = sym may.running ∙ e in cc)
rests_after net rounds st event.Settle may h = λ k e. (none_on 0 st.pending).1 may.none_pending
rests_after net rounds st (event.Enter place dst) may h = h
rests_after net rounds st (event.Hop i) may h = h
rests_after net rounds st (event.Lose i) may h = h

rests_all : (net : Network) (rounds : List (List Change)) (st : State) (events : List Event) → AreEnabled net rounds st events → Rests st → Rests (state_after net rounds st events)
rests_all net rounds st [] enabled h = h
rests_all net rounds st (e ∷ events) enabled h = rests_all net rounds (state_after_event net rounds st e) events enabled.1 (rests_after net rounds st e enabled.0 h)

-- what holds at each flag that is on
each_on : (P : Event → Type 0) (f : ℕ → Event) (n : ℕ) (flags : List Bool) → ((i : ℕ) → slice_get flags i ≡ Some true → P (f (n + i))) → AllByRecursion P (map f (numbers_on n flags))
each_on P f n [] on = tt
each_on P f n (true ∷ flags) on =
    let same : n + 0 ≡ n = omega arith in (
      subst (λ k. P (f k)) same (on 0 refl),
      each_on P f (suc n) flags (λ i at. let e : n + suc i ≡ suc n + i = omega arith in subst (λ k. P (f k)) e (on (suc i) at)),
    )
each_on P f n (false ∷ flags) on = each_on P f (suc n) flags (λ i at. let e : n + suc i ≡ suc n + i = omega arith in subst (λ k. P (f k)) e (on (suc i) at))

some_at : (round : List Change) (i : ℕ) → i < length round → (c : Change) × (slice_get round i ≡ Some c)
some_at [] i less = absurd (omega arith)
some_at (c ∷ round) zero less = (c, refl)
some_at (c ∷ round) (suc i) less = some_at round i (omega arith)

-- each pending change may be made
abbrev pub AllMayBeMade : Network → List (List Change) → State → Type 0
AllMayBeMade net rounds st = AllByRecursion (IsEnabled net rounds st) (map event.Change (numbers_on 0 st.pending))

module _ (u : Rollout) (valid : IsNetwork u.net) (good : AreGoodRounds u) (st : State) (steady : Steady u valid good st) (rests : Rests st) where
  abbrev May : Event → Type 0
  May = IsEnabled u.net u.rounds st

  by_phase : (phase : Phase) → st.phase ≡ phase → TablesAre u st.phase st.tables st.pending → AllMayBeMade u.net u.rounds st
  by_phase (Settled k) is are = subst (λ (l : List ℕ). AllByRecursion May (map event.Change l)) (sym (rests k is)) tt
  by_phase (Running zero) is are = absurd (subst (λ x. TablesAre u x st.tables st.pending) is are)
  by_phase (Running (suc k)) is are =
      let here : TablesAre u (Running (suc k)) st.tables st.pending = subst (λ x. TablesAre u x st.tables st.pending) is are in
      each_on May event.Change 0 st.pending (λ i flag.
      let same = here.1 in
      let within : i < length st.pending = slice_get_within st.pending i true flag in
      let (c, at) = some_at (round_after k u.rounds) i (omega arith) in
      let e : i ≡ 0 + i = omega arith in
      subst (λ n. May (event.Change n)) e
      (record { k = k; running = is; change = c; is = at; pending = flag; applies = pending_applies u good k i st.tables st.pending c here.0 at flag here.2 steady.tables }))

  pub all_may : AllMayBeMade u.net u.rounds st
  all_may = by_phase st.phase refl steady.sound.tables

-- what is offered, from what is due and what is counted
module _ (w : WorldState) (entries : List Entry) (pending : List Bool) (under_way : List ℕ) (counted : IsCounted w.state pending under_way) (are : AreEntries w.net entries)
    (rests : Rests w.state) (all : AllMayBeMade w.net w.rounds w.state) where
  abbrev MayHere : Event → Type 0
  MayHere = IsEnabled w.net w.rounds w.state

  abbrev numbers : List ℕ
  numbers = numbers_on 0 pending

  agenda_of : IsAgenda w.state (numbers_on 0 pending) under_way
  agenda_of = record { pending_are = ap (numbers_on 0) counted.pending_are; under_way_are = counted.under_way_are }

  no_changes : (list : List Event) → numbers_on 0 pending ≡ [] → AddsThose MayHere (map event.Change (numbers_on 0 pending)) list (list ++ [])
  no_changes list none = ([], subst (λ (l : List ℕ). AreThose MayHere (map event.Change l) []) (sym none) tt, refl)

  pub offered_due : (due : Option Event) → IsDue w due → AreOffered (world_rollout w) w.state entries (offered_events due (numbers_on 0 pending) entries under_way)
  offered_due None (no_start, no_settle) =
      let every : AllByRecursion MayHere (map event.Change (numbers_on 0 pending)) =
      subst (λ (flags : List Bool). AllByRecursion MayHere (map event.Change (numbers_on 0 flags))) (sym counted.pending_are) all in
      let changes : List Event = map event.Change (numbers_on 0 pending) in
      offered_are (world_rollout w) w.state entries (numbers_on 0 pending) under_way agenda_of are [] [] [] changes (changes ++ next_entry entries) (changes ++ next_entry entries ++ map event.Hop under_way) refl
      ([], (no_start, tt), refl) ([], (no_settle, tt), refl) (changes, those_all MayHere changes every, refl) refl refl
  offered_due (Some e) (may, inl is) =
      let starts : MayHere event.Start = subst MayHere is may in
      let no_settle : ¬ MayHere event.Settle = λ settles. (let f : Settled starts.k ≡ Running settles.k = sym starts.settled ∙ settles.running in cc) in
      let none : numbers_on 0 pending ≡ [] = ap (numbers_on 0) counted.pending_are ∙ rests starts.k starts.settled in
      let first : List Event = e ∷ [] in
      offered_are (world_rollout w) w.state entries (numbers_on 0 pending) under_way agenda_of are [] first first first (first ++ next_entry entries) (first ++ next_entry entries ++ map event.Hop under_way) refl
      (first, inl (starts, sym is, tt), refl) ([], (no_settle, tt), refl) (no_changes first none) refl refl
  offered_due (Some e) (may, inr is) =
      let settles : MayHere event.Settle = subst MayHere is may in
      let no_start : ¬ MayHere event.Start = λ starts. (let f : Settled starts.k ≡ Running settles.k = sym starts.settled ∙ settles.running in cc) in
      let none : numbers_on 0 pending ≡ [] = ap (numbers_on 0) counted.pending_are ∙ (none_on 0 w.state.pending).1 settles.none_pending in
      let first : List Event = e ∷ [] in
      offered_are (world_rollout w) w.state entries (numbers_on 0 pending) under_way agenda_of are [] [] first first (first ++ next_entry entries) (first ++ next_entry entries ++ map event.Hop under_way) refl
      ([], (no_start, tt), refl) (first, inl (settles, sym is, tt), refl) (no_changes first none) refl refl

-- in a driven run from a safe beginning
module _ (w : WorldState) (chooses : ℕ → ℕ → ℕ → Type 0) (entries : List Entry) (net : IsNetwork w.net) (sure : BeginsSafely w) (are : AreEntries w.net entries)
    (events : List Event) (after : WorldState) (rest : List Entry) (made : ℕ) (so : SoFar w chooses entries events after rest made) where
  steady_now : Steady (world_rollout w) net sure.good (state_after w.net w.rounds w.state events)
  steady_now =
      let first : Steady (world_rollout w) net sure.good w.state =
      subst (λ (s : State). Steady (world_rollout w) net sure.good s) (sym sure.begun) (steady_first (world_rollout w) net sure.good sure.once) in
      (reached (world_rollout w) net sure.good chooses 0 w.state entries events first are so.driven).steady

  rests_then : Rests (state_after w.net w.rounds w.state events)
  rests_then = rests_all w.net w.rounds w.state events (driven_enabled (world_rollout w) chooses 0 w.state entries events so.driven) (rests_first w.state sure.begun)

  rests_now : Rests after.state
  rests_now = subst (λ (x : WorldState). Rests x.state) (sym so.world) rests_then

  all_now : AllMayBeMade after.net after.rounds after.state
  all_now =
      subst (λ (x : WorldState). AllMayBeMade x.net x.rounds x.state) (sym so.world)
      (all_may (world_rollout w) net sure.good (state_after w.net w.rounds w.state events) steady_now rests_then)

  pub offered_now : (pending : List Bool) (under_way : List ℕ) (due : Option Event) → IsCounted after.state pending under_way → AreEntries after.net rest → IsDue after due
      → AreOffered (world_rollout after) after.state rest (offered_events due (numbers_on 0 pending) rest under_way)
  offered_now pending under_way due counted valid = offered_due after rest pending under_way counted valid rests_now all_now due

-- the event that stands at a position
pub named_there : (offered : List Event) (i : ℕ) (e : Event) → slice_get offered i ≡ Some e → e ≡ get_or offered i e
named_there [] i e at = absurd (let f : None ≡ Some e = at in cc)
named_there (x ∷ offered) zero e at = let f : Some x ≡ Some e = at in cc
named_there (x ∷ offered) (suc i) e at = named_there offered i e at

-- what is counted after each event
module _ (w next : WorldState) (pending : List Bool) (under_way : List ℕ) (kept : IsCounted w.state pending under_way) where
  agenda : IsAgenda w.state (numbers_on 0 pending) under_way
  agenda = record { pending_are = ap (numbers_on 0) kept.pending_are; under_way_are = kept.under_way_are }

  pub change_counted : (i : ℕ) (now : List Bool) → next ≡ world_after w (event.Change i) → now ≡ set pending i false → IsCounted next.state now under_way
  change_counted i now is changed =
      subst (λ (x : WorldState). IsCounted x.state now under_way) (sym is)
      (record { pending_are = changed ∙ ap (λ (flags : List Bool). set flags i false) kept.pending_are; under_way_are = kept.under_way_are })

  pub enter_counted : (place : Place) (dst : ℕ) (packets : List Packet) (now : List ℕ) → next ≡ world_after w (event.Enter place dst) → packets ≡ next.state.packets → now ≡ under_way ++ (length packets - 1) ∷ []
      → IsCounted next.state pending now
  enter_counted place dst packets now is same changed = record {
    pending_are = kept.pending_are ∙ sym (ap (λ (x : WorldState). x.state.pending) is);
    under_way_are = (enter_kept w next (numbers_on 0 pending) under_way agenda place dst packets now is same changed).under_way_are;
  }

  pub hop_counted : (i : ℕ) (packets : List Packet) (now : List ℕ) → IsHopping w.state.packets i → next ≡ world_after w (event.Hop i) → packets ≡ next.state.packets
      → (IsHopping packets i × (now ≡ under_way)) ⊎ ((¬ IsHopping packets i) × (now ≡ numbers_without i under_way)) → IsCounted next.state pending now
  hop_counted i packets now may is same changed = record {
    pending_are = kept.pending_are ∙ sym (ap (λ (x : WorldState). x.state.pending) is);
    under_way_are = (hop_kept w next (numbers_on 0 pending) under_way agenda i packets now may is same changed).under_way_are;
  }

  pub lose_counted : (i : ℕ) (packets : List Packet) (now : List ℕ) → IsHopping w.state.packets i → next ≡ world_after w (event.Lose i) → packets ≡ next.state.packets
      → (IsHopping packets i × (now ≡ under_way)) ⊎ ((¬ IsHopping packets i) × (now ≡ numbers_without i under_way)) → IsCounted next.state pending now
  lose_counted i packets now may is same changed = record {
    pending_are = kept.pending_are ∙ sym (ap (λ (x : WorldState). x.state.pending) is);
    under_way_are = (lose_kept w next (numbers_on 0 pending) under_way agenda i packets now may is same changed).under_way_are;
  }

-- what stands behind the first part of a list
pub at_right : (xs ys : List Event) (i j : ℕ) (e : Event) → i ≡ length xs + j → slice_get ys j ≡ Some e → slice_get (xs ++ ys) i ≡ Some e
at_right [] ys i j e is at = let same : i ≡ j = omega arith in ap (slice_get ys) same ∙ at
at_right (x ∷ xs) ys zero j e is at = absurd (omega arith)
at_right (x ∷ xs) ys (suc i) j e is at = at_right xs ys i j e (omega arith) at
