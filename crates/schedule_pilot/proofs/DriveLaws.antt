-- A driven run goes on by one event, and ends.
use Rattle.std.proofs.Common.{◌≡◌, ◌↔◌, Bool, true, false, IsTrue, cond, get_or, ℕ, zero, suc, ◌+◌, ◌<◌, ◌≤◌, List, [], ◌∷◌, ◌++◌, length, refl, sym, ◌∙◌, subst, ap, inl, arith}
use Rattle.std.specs.Prelude.{slice_get, Some, None, ◌==◌}
use Rattle.std.proofs.lemmas.Bool.{eqb-true, ne_eqb, false≢true}
use Rattle.update_model.specs.declared.Phase.TheVariants.{Settled}
use Rattle.topology.specs.Networks.{Network, IsNetwork}
use Rattle.update_model.specs.Mixtures.{Rollout}
use Rattle.update_model.specs.States.{State, first_state, IsEnabled, state_after_event}
use Rattle.update_model.specs.Runs.{AreEnabled, state_after}
use Rattle.update_model.specs.Worlds.{WorldState, world_after}
use Rattle.update_model.specs.declared.Change.{Change}
use Rattle.update_model.specs.declared.Event.{Event}
use Rattle.update_model.specs.declared.Event.TheVariants as event
use Rattle.schedule_pilot.specs.Offered.{candidates, AreOffered, entries_after, IsDriven, IsOver, full_budget}
use Rattle.schedule_pilot.specs.Ends.{AreEntries, entries_left}
use Rattle.schedule_pilot.specs.Driving.{world_rollout, world_after_all, IsOverAfter, NoneIsOffered, IsRunFrom, HasEnding, BeginsSafely, ending_at}
use Rattle.schedule_pilot.specs.declared.Entry.{Entry}
use Rattle.schedule_pilot.specs.declared.Ending.{Ending}
use Rattle.schedule_pilot.specs.declared.Ending.TheVariants.{Finished, OutOfBudget, Blocked}
use Rattle.schedule_pilot.proofs.EndLaws.{in_those, none_of, never_blocked, over_in_time}
use Rattle.net_base.proofs.ItemLaws.{in_from_get}

pub state_push : (net : Network) (rounds : List (List Change)) (st : State) (events : List Event) (e : Event)
    → state_after net rounds st (events ++ e ∷ []) ≡ state_after_event net rounds (state_after net rounds st events) e
state_push net rounds st [] e = refl
state_push net rounds st (x ∷ events) e = state_push net rounds (state_after_event net rounds st x) events e

pub left_push : (events : List Event) (entries : List Entry) (e : Event) → entries_left (events ++ e ∷ []) entries ≡ entries_after e (entries_left events entries)
left_push [] entries e = refl
left_push (x ∷ events) entries e = left_push events (entries_after x entries) e

module _ (u : Rollout) (chooses : ℕ → ℕ → ℕ → Type 0) where
  -- an event that is offered and named
  abbrev pub IsNamed : ℕ → State → List Entry → Event → Type 0
  IsNamed n st entries e = (offered : List Event) × (i : ℕ) × AreOffered u st entries offered × chooses n (length offered) i × (slice_get offered i ≡ Some e)

  pub driven_push : (m n : ℕ) (st : State) (entries : List Entry) (events : List Event) (e : Event) → n ≡ m + length events
      → IsDriven u chooses m st entries events → IsNamed n (state_after u.net u.rounds st events) (entries_left events entries) e
      → IsDriven u chooses m st entries (events ++ e ∷ [])
  driven_push m n st entries [] e is driven named = let same : n ≡ m = omega arith in (subst (λ k. IsNamed k st entries e) same named, tt)
  driven_push m n st entries (x ∷ events) e is driven named =
      (driven.0, driven_push (suc m) n (state_after_event u.net u.rounds st x) (entries_after x entries) events e (omega arith) driven.1 named)

  pub driven_enabled : (m : ℕ) (st : State) (entries : List Entry) (events : List Event) → IsDriven u chooses m st entries events → AreEnabled u.net u.rounds st events
  driven_enabled m st entries [] driven = tt
  driven_enabled m st entries (e ∷ events) driven =
      let (offered, i, are, named, at) = driven.0 in (
        (in_those (IsEnabled u.net u.rounds st) (candidates st entries) offered are e (in_from_get offered i e at)).1,
        driven_enabled (suc m) (state_after_event u.net u.rounds st e) (entries_after e entries) events driven.1,
      )

-- what holds after each event
pub record SoFar (w : WorldState) (chooses : ℕ → ℕ → ℕ → Type 0) (entries : List Entry) (events : List Event) (after : WorldState) (rest : List Entry) (made : ℕ) : Type 0 where
  pub driven : IsDriven (world_rollout w) chooses 0 w.state entries events
  pub world : after ≡ world_after_all w events
  pub rest_is : rest ≡ entries_left events entries
  pub count : made ≡ length events

module _ (w : WorldState) (chooses : ℕ → ℕ → ℕ → Type 0) (entries : List Entry) where
  pub so_far_next : (events : List Event) (after : WorldState) (rest : List Entry) (made : ℕ) (e : Event) (next : WorldState) (left : List Entry)
      → SoFar w chooses entries events after rest made → IsNamed (world_rollout w) chooses made after.state rest e → next ≡ world_after after e → left ≡ entries_after e rest
      → SoFar w chooses entries (events ++ e ∷ []) next left (made + 1)
  so_far_next events after rest made e next left so named is left_is = record {
    driven = driven_push (world_rollout w) chooses 0 made w.state entries events e (let n = so.count in omega arith) so.driven
        (subst (λ r. IsNamed (world_rollout w) chooses made (state_after w.net w.rounds w.state events) r e) so.rest_is
        (subst (λ (x : WorldState). IsNamed (world_rollout w) chooses made x.state rest e) so.world named));
    world = is ∙ ap (λ (x : WorldState). world_after x e) so.world
        ∙ ap (λ (s : State). let x : WorldState = record { net = w.net; rounds = w.rounds; state = s } in x) (sym (state_push w.net w.rounds w.state events e));
    rest_is = left_is ∙ ap (entries_after e) so.rest_is ∙ sym (left_push events entries e);
    count = let n = so.count in let l = length_push events in omega arith;
  }
    where
      length_push : (es : List Event) → length (es ++ e ∷ []) ≡ suc (length es)
      length_push [] = refl
      length_push (x ∷ es) = ap suc (length_push es)

  pub run_from : (events : List Event) (after : WorldState) (rest : List Entry) (made : ℕ) → SoFar w chooses entries events after rest made → IsRunFrom w chooses entries events after
  run_from events after rest made so = record {
    driven = so.driven;
    enabled = driven_enabled (world_rollout w) chooses 0 w.state entries events so.driven;
    world = so.world;
  }

  module _ (net : IsNetwork w.net) (sure : BeginsSafely w) (are : AreEntries w.net entries) (events : List Event) (driven : IsDriven (world_rollout w) chooses 0 w.state entries events) where
    from_first : IsDriven (world_rollout w) chooses 0 (first_state w.state.tables) entries events
    from_first = subst (λ s. IsDriven (world_rollout w) chooses 0 s entries events) sure.begun driven

    pub blocked_never : NoneIsOffered w entries events → IsOverAfter w entries events
    blocked_never none =
        subst (λ s. IsOver (world_rollout w) (state_after w.net w.rounds s events) (entries_left events entries)) (sym sure.begun)
        (never_blocked (world_rollout w) net sure.good sure.once chooses entries are events from_first
        (subst (λ s. AreOffered (world_rollout w) (state_after w.net w.rounds s events) (entries_left events entries) []) sure.begun none))

    pub finished_in_time : full_budget (world_rollout w) entries ≤ length events → IsOverAfter w entries events
    finished_in_time spent =
        subst (λ s. IsOver (world_rollout w) (state_after w.net w.rounds s events) (entries_left events entries)) (sym sure.begun)
        (over_in_time (world_rollout w) net sure.good sure.once chooses entries are events from_first spent)

    -- the ending is never Blocked
    pub ends_unblocked : (budget : ℕ) (ending : Ending) → HasEnding w entries budget events ending → ¬ (ending ≡ Blocked)
    ends_unblocked budget ending ends is = let (over, none) = ends.blocked.0 is in over (blocked_never none)

    -- and it is Finished where the budget is full
    pub ends_finished : (budget : ℕ) (ending : Ending) → HasEnding w entries budget events ending → full_budget (world_rollout w) entries ≤ budget → ending ≡ Finished
    ends_finished budget Finished ends full = refl
    ends_finished budget OutOfBudget ends full = let (spent, over, none) = ends.spent refl in absurd (over (finished_in_time (omega arith)))
    ends_finished budget Blocked ends full = absurd (ends_unblocked budget Blocked ends refl)

-- the entries that are still to come after an event
pub entries_kept : (net : Network) (e : Event) (entries : List Entry) → AreEntries net entries → AreEntries net (entries_after e entries)
entries_kept net event.Start entries h = h
entries_kept net event.Settle entries h = h
entries_kept net (event.Change i) entries h = h
entries_kept net (event.Enter place dst) [] h = tt
entries_kept net (event.Enter place dst) (x ∷ entries) h = h.1
entries_kept net (event.Hop i) entries h = h
entries_kept net (event.Lose i) entries h = h

over_same : (u v : Rollout) (st : State) (es : List Entry) → u.rounds ≡ v.rounds → IsOver u st es → IsOver v st es
over_same u v st es e over = record { settled = over.settled ∙ ap (λ r. Settled (length r)) e; entered = over.entered; ended = over.ended }

module _ (w : WorldState) (chooses : ℕ → ℕ → ℕ → Type 0) (entries : List Entry) (events : List Event) (after : WorldState) (rest : List Entry) (made : ℕ)
    (so : SoFar w chooses entries events after rest made) where
  over_here : IsOver (world_rollout after) after.state rest ↔ IsOverAfter w entries events
  over_here = (
    λ over.
        over_same (world_rollout (world_after_all w events)) (world_rollout w) (state_after w.net w.rounds w.state events) (entries_left events entries) refl
        (subst (λ r. IsOver (world_rollout (world_after_all w events)) (state_after w.net w.rounds w.state events) r) so.rest_is
        (subst (λ (x : WorldState). IsOver (world_rollout x) x.state rest) so.world over)),
    λ over.
        subst (λ (x : WorldState). IsOver (world_rollout x) x.state rest) (sym so.world)
        (subst (λ r. IsOver (world_rollout (world_after_all w events)) (state_after w.net w.rounds w.state events) r) (sym so.rest_is)
        (over_same (world_rollout w) (world_rollout (world_after_all w events)) (state_after w.net w.rounds w.state events) (entries_left events entries) refl over)),
  )

  offered_here : (offered : List Event) → AreOffered (world_rollout after) after.state rest offered
      → AreOffered (world_rollout w) (state_after w.net w.rounds w.state events) (entries_left events entries) offered
  offered_here offered are =
      subst (λ r. AreOffered (world_rollout w) (state_after w.net w.rounds w.state events) r offered) so.rest_is
      (subst (λ (x : WorldState). AreOffered (world_rollout x) x.state rest offered) so.world are)

  some_offered : (x : Event) (xs : List Event) → AreOffered (world_rollout w) (state_after w.net w.rounds w.state events) (entries_left events entries) (x ∷ xs) → ¬ NoneIsOffered w entries events
  some_offered x xs are none =
      let st = state_after w.net w.rounds w.state events in
      let left = entries_left events entries in
      let (i, may) = in_those (IsEnabled w.net w.rounds st) (candidates st left) (x ∷ xs) are x (inl refl) in
      none_of (IsEnabled w.net w.rounds st) (candidates st left) none x i may

  -- the ending that is found is the right one
  pub ends_as : (budget : ℕ) (offered : List Event) (over : Bool) (ending : Ending) → IsTrue over ↔ IsOver (world_rollout after) after.state rest
      → AreOffered (world_rollout after) after.state rest offered → made ≤ budget → ending_at over (length offered) made budget ≡ Some ending → HasEnding w entries budget events ending
  ends_as budget offered true ending is are within e =
      let f : Some Finished ≡ Some ending = e in
      let g : Finished ≡ ending = cc in
      let holds : IsOverAfter w entries events = over_here.0 (is.0 refl) in
      let count = so.count in
      subst (λ x. HasEnding w entries budget events x) g (record {
        short = omega arith;
        finished = (λ _. holds, λ _. refl);
        blocked = (λ b. absurd (let h : Finished ≡ Blocked = b in cc), λ h. absurd (h.0 holds));
        spent = λ b. absurd (let h : Finished ≡ OutOfBudget = b in cc);
      })
  ends_as budget [] false ending is are within e =
      let f : Some Blocked ≡ Some ending = e in
      let g : Blocked ≡ ending = cc in
      let fails : ¬ IsOverAfter w entries events = λ h. false≢true (is.1 (over_here.1 h)) in
      let none : NoneIsOffered w entries events = offered_here [] are in
      let count = so.count in
      subst (λ x. HasEnding w entries budget events x) g (record {
        short = omega arith;
        finished = (λ b. absurd (let h : Blocked ≡ Finished = b in cc), λ h. absurd (fails h));
        blocked = (λ _. (fails, none), λ _. refl);
        spent = λ b. absurd (let h : Blocked ≡ OutOfBudget = b in cc);
      })
  ends_as budget (x ∷ xs) false ending is are within e =
      let fails : ¬ IsOverAfter w entries events = λ h. false≢true (is.1 (over_here.1 h)) in
      let some : ¬ NoneIsOffered w entries events = some_offered x xs (offered_here (x ∷ xs) are) in
      let count = so.count in
      elim (made == budget) as (λ b. made == budget ≡ b → cond b (Some OutOfBudget) None ≡ Some ending → HasEnding w entries budget events ending) [
        | true ↦ λ t f.
            let k : Some OutOfBudget ≡ Some ending = f in
            let g : OutOfBudget ≡ ending = cc in
            let same : made ≡ budget = eqb-true made budget t in
            subst (λ x. HasEnding w entries budget events x) g (record {
              short = omega arith;
              finished = (λ b. absurd (let h : OutOfBudget ≡ Finished = b in cc), λ h. absurd (fails h));
              blocked = (λ b. absurd (let h : OutOfBudget ≡ Blocked = b in cc), λ h. absurd (some h.1));
              spent = λ _. (omega arith, fails, some);
            })
        | false ↦ λ t f. absurd (let k : None ≡ Some ending = f in cc)
      ] refl (subst (λ b. cond b (Some Blocked) (cond (made == budget) (Some OutOfBudget) None) ≡ Some ending) (ne_eqb (suc (length xs)) 0 (λ h. absurd (omega arith))) e)

slice_get_at : {A : Type 0} (xs : List A) (i : ℕ) (d : A) → i < length xs → slice_get xs i ≡ Some (get_or xs i d)
slice_get_at [] i d less = absurd (omega arith)
slice_get_at (x ∷ xs) zero d less = refl
slice_get_at (x ∷ xs) (suc i) d less = slice_get_at xs i d (omega arith)

named_is : (offered : List Event) (i : ℕ) (e : Event) → i < length offered → e ≡ get_or offered i e → slice_get offered i ≡ Some e
named_is offered i e less is = slice_get_at offered i e less ∙ ap (λ x. Some x) (sym is)

-- the named event is enabled
pub named_enabled : (u : Rollout) (st : State) (rest : List Entry) (offered : List Event) (i n : ℕ) (e : Event) → AreOffered u st rest offered → n ≡ length offered → i < n → e ≡ get_or offered i e
    → IsEnabled u.net u.rounds st e
named_enabled u st rest offered i n e are count less is =
    let within : i < length offered = omega arith in
    (in_those (IsEnabled u.net u.rounds st) (candidates st rest) offered are e (in_from_get offered i e (named_is offered i e within is))).1

-- and it goes on by the named event
pub so_far_named : (w : WorldState) (chooses : ℕ → ℕ → ℕ → Type 0) (entries : List Entry) (events : List Event) (after : WorldState) (rest : List Entry) (made : ℕ)
    (so : SoFar w chooses entries events after rest made) (e : Event) (next : WorldState) (left : List Entry) (more : List Event) (offered : List Event) (i n : ℕ)
    → AreOffered (world_rollout after) after.state rest offered → n ≡ length offered → chooses made n i → i < n → e ≡ get_or offered i e
    → next ≡ world_after after e → left ≡ entries_after e rest → more ≡ events ++ e ∷ [] → SoFar w chooses entries more next left (made + 1)
so_far_named w chooses entries events after rest made so e next left more offered i n are count chosen less is next_is left_is more_is =
    let within : i < length offered = omega arith in
    let here : AreOffered (world_rollout w) after.state rest offered =
    subst (λ (x : WorldState). AreOffered (world_rollout w) x.state rest offered) (sym so.world)
    (subst (λ (x : WorldState). AreOffered (world_rollout x) x.state rest offered) so.world are) in
    let named : IsNamed (world_rollout w) chooses made after.state rest e =
    (offered, i, here, subst (λ m. chooses made m i) count chosen, named_is offered i e within is) in
    subst (λ l. SoFar w chooses entries l next left (made + 1)) (sym more_is)
    (so_far_next w chooses entries events after rest made e next left so named next_is left_is)
