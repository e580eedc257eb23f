-- A driven run always has something to do until it is over, and is over within the full budget.
use Rattle.std.proofs.Common.{◌≡◌, ℕ, zero, suc, ◌+◌, ◌<◌, ◌≤◌, Bool, true, false, List, [], ◌∷◌, ◌++◌, map, length, refl, sym, ◌∙◌, subst, ap, inl, inr, arith}
use Rattle.std.specs.Prelude.{slice_get, Some}
use Rattle.std.specs.List.{AllByRecursion}
use Rattle.net_base.specs.Members.{IsIn}
use Rattle.net_base.specs.declared.ids.SwitchId.{SwitchId}
use Rattle.net_base.specs.declared.ids.Stop.{Stop}
use Rattle.net_base.specs.declared.ids.Place.{Place}
use Rattle.net_base.proofs.MemberLaws.{in_append_cases, in_append_left, in_append_right, in_map, in_from_map, each_weaker, each_both, each_at}
use Rattle.topology.specs.Networks.{IsNetwork, switch_count}
use Rattle.path_walk.specs.Paths.{outcome_in}
use Rattle.update_model.specs.Changes.{round_after}
use Rattle.update_model.specs.Mixtures.{Rollout, AreGoodRounds}
use Rattle.update_model.specs.OneRound.{WalkedOneRound}
use Rattle.update_model.specs.States.{State, first_state, IsUnderWay, IsEnabled, settled_count, entered_packet, state_after_event}
use Rattle.update_model.specs.Runs.{AreEnabled, state_after, state_after_run}
use Rattle.update_model.specs.declared.Change.{Change}
use Rattle.update_model.specs.declared.Packet.{Packet}
use Rattle.update_model.specs.declared.Phase.{Phase}
use Rattle.update_model.specs.declared.Phase.TheVariants.{Settled, Running}
use Rattle.update_model.specs.declared.Event.{Event}
use Rattle.update_model.specs.declared.Event.TheVariants as event
use Rattle.update_model.proofs.OneRoundLaws.{Sound, TablesAre, IsSound, IsAdmitted, sound_after, first_sound}
use Rattle.net_base.specs.Numbers.{numbers_from}
use Rattle.schedule_pilot.specs.Offered.{next_entry, candidates, AreThose, AreOffered, entries_after, IsDriven, IsOver, full_budget}
use Rattle.schedule_pilot.specs.Ends.{VisitsOnce, AllVisitOnce, AreEntries, entries_left}
use Rattle.schedule_pilot.specs.declared.Entry.{Entry}
use Rattle.schedule_pilot.proofs.PendingLaws.{pending_applies, same_count}
use Rattle.path_walk.proofs.StayLaws.{few_switches, entry_within}
use Rattle.schedule_pilot.proofs.VisitLaws.{walk_within}
use Rattle.schedule_pilot.proofs.MeasureLaws.{left, start_lowers, change_lowers, settle_lowers, hops_append, hops_entered, hop_lowers, left_first}
use Rattle.net_base.proofs.ItemLaws.{in_from_get}

-- what stands among those that a fact holds of stands among all, and the fact holds of it
pub in_those : {A : Type 0} (P : A → Type 0) (xs ys : List A) → AreThose P xs ys → (y : A) → IsIn y ys → IsIn y xs × P y
in_those P [] [] those y i = absurd i
in_those P [] (z ∷ ys) those y i = absurd those
in_those P (x ∷ xs) [] those y i = absurd i
in_those P (x ∷ xs) (z ∷ ys) (inl h) y (inl e) = (inl (e ∙ sym h.1), subst P (h.1 ∙ sym e) h.0)
in_those P (x ∷ xs) (z ∷ ys) (inl h) y (inr i) = let rest = in_those P xs ys h.2 y i in (inr rest.0, rest.1)
in_those P (x ∷ xs) (z ∷ ys) (inr h) y i = let rest = in_those P xs (z ∷ ys) h.1 y i in (inr rest.0, rest.1)

pub none_of : {A : Type 0} (P : A → Type 0) (xs : List A) → AreThose P xs [] → (x : A) → IsIn x xs → ¬ P x
none_of P [] those x i = absurd i
none_of P (y ∷ xs) those x (inl e) = λ h. those.0 (subst P e h)
none_of P (y ∷ xs) those x (inr i) = none_of P xs those.1 x i

none_from : {A : Type 0} (P : A → Type 0) (xs : List A) → ((x : A) → IsIn x xs → ¬ P x) → AreThose P xs []
none_from P [] f = tt
none_from P (x ∷ xs) f = (f x (inl refl), none_from P xs (λ y i. f y (inr i)))

in_counted : (n count i : ℕ) → i < count → IsIn (n + i) (numbers_from n count)
in_counted n zero i less = absurd (omega arith)
in_counted n (suc count) zero less = inl (omega arith)
in_counted n (suc count) (suc i) less = inr (let e : suc n + i ≡ n + suc i = omega arith in subst (λ k. IsIn k (numbers_from (suc n) count)) e (in_counted (suc n) count i (omega arith)))

-- the changes and the hops among the candidates
abbrev changes_of : State → List Event
changes_of st = map event.Change (numbers_from 0 (length st.pending))

abbrev hops_of : State → List Event
hops_of st = map event.Hop (numbers_from 0 (length st.packets))

-- an event among the candidates
module _ (st : State) (entries : List Entry) where
  change_in : (i : ℕ) → i < length st.pending → IsIn (event.Change i) (candidates st entries)
  change_in i less =
      let e : 0 + i ≡ i = omega arith in
      let here : IsIn i (numbers_from 0 (length st.pending)) = subst (λ k. IsIn k (numbers_from 0 (length st.pending))) e (in_counted 0 (length st.pending) i less) in
      inr (inr (in_append_left (event.Change i) (changes_of st ++ next_entry entries) (hops_of st)
      (in_append_left (event.Change i) (changes_of st) (next_entry entries) (in_map event.Change i (numbers_from 0 (length st.pending)) here))))

  hop_in : (i : ℕ) → i < length st.packets → IsIn (event.Hop i) (candidates st entries)
  hop_in i less =
      let e : 0 + i ≡ i = omega arith in
      let here : IsIn i (numbers_from 0 (length st.packets)) = subst (λ k. IsIn k (numbers_from 0 (length st.packets))) e (in_counted 0 (length st.packets) i less) in
      inr (inr (in_append_right (event.Hop i) (changes_of st ++ next_entry entries) (hops_of st) (in_map event.Hop i (numbers_from 0 (length st.packets)) here)))

  -- an entry that is a candidate is the next one
  enter_next : (place : Place) (dst : ℕ) → IsIn (event.Enter place dst) (candidates st entries) → IsIn (event.Enter place dst) (next_entry entries)
  enter_next place dst (inl e) = absurd (let f : event.Enter place dst ≡ event.Start = e in cc)
  enter_next place dst (inr (inl e)) = absurd (let f : event.Enter place dst ≡ event.Settle = e in cc)
  enter_next place dst (inr (inr i)) =
      elim (in_append_cases (event.Enter place dst) (changes_of st ++ next_entry entries) (hops_of st) i) [
        | inl j ↦ elim (in_append_cases (event.Enter place dst) (changes_of st) (next_entry entries) j) [
          | inl k ↦ absurd (let (h, m, e) = in_from_map event.Change (event.Enter place dst) (numbers_from 0 (length st.pending)) k in let f : event.Enter place dst ≡ event.Change h = e in cc)
          | inr k ↦ k
        ]
        | inr j ↦ absurd (let (h, m, e) = in_from_map event.Hop (event.Enter place dst) (numbers_from 0 (length st.packets)) j in let f : event.Enter place dst ≡ event.Hop h = e in cc)
      ]

  lose_none : (i : ℕ) → IsIn (event.Lose i) (candidates st entries) → ⊥
  lose_none i (inl e) = let f : event.Lose i ≡ event.Start = e in cc
  lose_none i (inr (inl e)) = let f : event.Lose i ≡ event.Settle = e in cc
  lose_none i (inr (inr j)) =
      elim (in_append_cases (event.Lose i) (changes_of st ++ next_entry entries) (hops_of st) j) [
        | inl k ↦ elim (in_append_cases (event.Lose i) (changes_of st) (next_entry entries) k) [
          | inl h ↦ (let (g, m, e) = in_from_map event.Change (event.Lose i) (numbers_from 0 (length st.pending)) h in let f : event.Lose i ≡ event.Change g = e in cc)
          | inr h ↦ lose_next entries h
        ]
        | inr k ↦ (let (g, m, e) = in_from_map event.Hop (event.Lose i) (numbers_from 0 (length st.packets)) k in let f : event.Lose i ≡ event.Hop g = e in cc)
      ]
    where
      lose_next : (es : List Entry) → IsIn (event.Lose i) (next_entry es) → ⊥
      lose_next [] h = h
      lose_next (e ∷ es) (inl f) = let g : event.Lose i ≡ event.Enter e.place e.dst = f in cc
      lose_next (e ∷ es) (inr h) = h

module _ (u : Rollout) (valid : IsNetwork u.net) (good : AreGoodRounds u) where
  -- a state of a run after which no packet visits a switch twice
  pub record Steady (st : State) : Type 0 where
    pub sound : Sound u st
    pub tables : length st.tables ≡ length u.old
    pub once : (events : List Event) → AreEnabled u.net u.rounds st events → AllByRecursion VisitsOnce (state_after u.net u.rounds st events).packets

  pub steady_first : AllVisitOnce u → Steady (first_state u.old)
  steady_first once = record { sound = first_sound u good; tables = refl; once = once }

  pub steady_after : (st : State) (e : Event) → Steady st → IsEnabled u.net u.rounds st e → Steady (state_after_event u.net u.rounds st e)
  steady_after st e steady may = record {
    sound = sound_after u good st e steady.sound may;
    tables = same_count u.net u.rounds st e ∙ steady.tables;
    once = λ events enabled. steady.once (e ∷ events) (may, enabled);
  }

  few_visits : (p : Packet) → WalkedOneRound u p → IsAdmitted u p → VisitsOnce p → length p.visits ≤ switch_count u.net
  few_visits p walked admitted once =
      let switches : List Stop → List SwitchId = λ visits. map (λ (stop : Stop). stop.switch) visits in
      let within : AllByRecursion (λ s. s.0 < switch_count u.net) (switches p.visits) =
      subst (λ v. AllByRecursion (λ s. s.0 < switch_count u.net) (switches v)) (sym walked.visits_are)
      (walk_within u valid p.born p.dst p.entry walked.rest (entry_within u.net valid p.entry admitted.entry) walked.walk) in
      let few = few_switches (switch_count u.net) (switches p.visits) once within in
      let same = length_map p.visits in
      omega arith
    where
      length_map : (visits : List Stop) → length (map (λ stop. stop.switch) visits) ≡ length visits
      length_map [] = refl
      length_map (v ∷ visits) = ap suc (length_map visits)

  few : (st : State) → Steady st → AllByRecursion (λ p. length p.visits ≤ switch_count u.net) st.packets
  few st steady =
      each_both (IsSound u st.phase) VisitsOnce (λ p. length p.visits ≤ switch_count u.net) (λ p s once. few_visits p s.1 s.2 once) st.packets steady.sound.packets (steady.once [] tt)

  -- each event that is made lowers what is left
  pub lowers : (st : State) (entries : List Entry) (e : Event) → Steady st → IsIn e (candidates st entries) → IsEnabled u.net u.rounds st e
      → left (switch_count u.net) u.rounds (state_after_event u.net u.rounds st e) (entries_after e entries) < left (switch_count u.net) u.rounds st entries
  lowers st entries event.Start steady i may = let less = start_lowers st.phase st.pending u.rounds may.k may.settled may.more in omega arith
  lowers st entries (event.Change i) steady j may = let less = change_lowers st.phase st.pending u.rounds may.k i may.running may.pending in omega arith
  lowers st entries event.Settle steady i may = settle_case st.phase may.k may.running steady.sound.tables
    where
      settle_case : (phase : Phase) (k : ℕ) → st.phase ≡ Running k → TablesAre u st.phase st.tables st.pending
          → left (switch_count u.net) u.rounds (state_after_event u.net u.rounds st event.Settle) entries < left (switch_count u.net) u.rounds st entries
      settle_case phase zero is are = absurd (subst (λ x. TablesAre u x st.tables st.pending) is are)
      settle_case phase (suc k) is are = let less = settle_lowers st.phase st.pending u.rounds k is may.none_pending in omega arith
  lowers st [] (event.Enter place dst) steady i may = absurd (enter_next st [] place dst i)
  lowers st (x ∷ entries) (event.Enter place dst) steady i may =
      let append = hops_append (switch_count u.net) st.packets (entered_packet place dst (settled_count st.phase) ∷ []) in
      let one = hops_entered (switch_count u.net) place dst (settled_count st.phase) in
      omega arith
  lowers st entries (event.Hop i) steady j may =
      let short = each_at (λ p. length p.visits ≤ switch_count u.net) st.packets may.0 (few st steady) (in_from_get st.packets i may.0 may.1) in
      let less = hop_lowers (switch_count u.net) st.packets i may.0 (λ q. outcome_in u.net st.tables q.at q.dst) may.1 may.2 short in
      omega arith
  lowers st entries (event.Lose i) steady j may = absurd (lose_none st entries i j)

  -- where nothing is offered the run is over
  pub over_from_none : (st : State) (entries : List Entry) → Steady st → AreEntries u.net entries → AreOffered u st entries [] → IsOver u st entries
  over_from_none st entries steady valid_entries none = record {
    settled = settled_all st.phase refl steady.sound.tables;
    entered = no_entry entries none valid_entries;
    ended = ended_all;
  }
    where
      not_made : (e : Event) → IsIn e (candidates st entries) → ¬ IsEnabled u.net u.rounds st e
      not_made = none_of (IsEnabled u.net u.rounds st) (candidates st entries) none

      no_entry : (es : List Entry) → AreOffered u st es [] → AreEntries u.net es → es ≡ []
      no_entry [] none_here entries_here = refl
      no_entry (e ∷ es) none_here entries_here =
          absurd (none_of (IsEnabled u.net u.rounds st) (candidates st (e ∷ es)) none_here (event.Enter e.place e.dst)
          (inr (inr (in_append_left (event.Enter e.place e.dst) (changes_of st ++ next_entry (e ∷ es)) (hops_of st)
          (in_append_right (event.Enter e.place e.dst) (changes_of st) (next_entry (e ∷ es)) (inl refl))))) entries_here.0)

      none_hops : (before : ℕ) (packets : List Packet) → ((i : ℕ) → i < length packets → (p : Packet) → slice_get packets i ≡ Some p → ¬ IsUnderWay p) → AllByRecursion (λ p. ¬ IsUnderWay p) packets
      none_hops before [] f = tt
      none_hops before (p ∷ packets) f = (f 0 (omega arith) p refl, none_hops (suc before) packets (λ i less q e. f (suc i) (omega arith) q e))

      ended_all : AllByRecursion (λ p. ¬ IsUnderWay p) st.packets
      ended_all = none_hops 0 st.packets (λ i less p e under. not_made (event.Hop i) (hop_in st entries i less) (p, e, under))

      all_off : (flags : List Bool) → ((i : ℕ) → i < length flags → ¬ (slice_get flags i ≡ Some true)) → AllByRecursion (λ b. b ≡ false) flags
      all_off [] f = tt
      all_off (true ∷ flags) f = absurd (f 0 (omega arith) refl)
      all_off (false ∷ flags) f = (refl, all_off flags (λ i less e. f (suc i) (omega arith) e))

      some_at : (round : List Change) (i : ℕ) → i < length round → (c : Change) × (slice_get round i ≡ Some c)
      some_at [] i less = absurd (omega arith)
      some_at (c ∷ round) zero less = (c, refl)
      some_at (c ∷ round) (suc i) less = some_at round i (omega arith)

      settled_all : (phase : Phase) → st.phase ≡ phase → TablesAre u st.phase st.tables st.pending → st.phase ≡ Settled (length u.rounds)
      settled_all (Settled k) is are =
          let here : TablesAre u (Settled k) st.tables st.pending = subst (λ x. TablesAre u x st.tables st.pending) is are in
          let most = here.0 in
          let least : ¬ (k < length u.rounds) = λ less.
          not_made event.Start (inl refl) (record { k = k; settled = is; more = less; none_older = each_weaker (λ p. ¬ IsUnderWay p) (λ p. IsUnderWay p → k ≤ p.born) (λ p h under. absurd (h under)) st.packets ended_all }) in
          let same : k ≡ length u.rounds = omega (arith, least) in
          is ∙ ap Settled same
      settled_all (Running zero) is are = absurd (subst (λ x. TablesAre u x st.tables st.pending) is are)
      settled_all (Running (suc k)) is are =
          let here : TablesAre u (Running (suc k)) st.tables st.pending = subst (λ x. TablesAre u x st.tables st.pending) is are in
          let off : AllByRecursion (λ b. b ≡ false) st.pending = all_off st.pending (λ i less flag.
          let same = here.1 in
          let (c, at) = some_at (round_after k u.rounds) i (omega arith) in
          not_made (event.Change i) (change_in st entries i less)
          (record { k = k; running = is; change = c; is = at; pending = flag; applies = pending_applies u good k i st.tables st.pending c here.0 at flag here.2 steady.tables })) in
          absurd (not_made event.Settle (inr (inl refl)) (record { k = suc k; running = is; none_pending = off }))

  -- where nothing is left the run is over
  pub over_from_zero : (st : State) (entries : List Entry) → Steady st → AreEntries u.net entries → left (switch_count u.net) u.rounds st entries ≡ 0 → IsOver u st entries
  over_from_zero st entries steady valid_entries nothing =
      over_from_none st entries steady valid_entries
      (none_from (IsEnabled u.net u.rounds st) (candidates st entries) (λ e i may. let less = lowers st entries e steady i may in omega arith))

  module _ (chooses : ℕ → ℕ → ℕ → Type 0) where
    abbrev pub Step : State → List Entry → Event → ℕ → Type 0
    Step st entries e m = (offered : List Event) × (i : ℕ) × AreOffered u st entries offered × chooses m (length offered) i × (slice_get offered i ≡ Some e)

    pub chosen : (m : ℕ) (st : State) (entries : List Entry) (e : Event) → Step st entries e m → IsIn e (candidates st entries) × IsEnabled u.net u.rounds st e
    chosen m st entries e step = in_those (IsEnabled u.net u.rounds st) (candidates st entries) step.0 step.2 e (in_from_get step.0 step.1 e step.4)

    rest_entries : (e : Event) (entries : List Entry) → AreEntries u.net entries → AreEntries u.net (entries_after e entries)
    rest_entries event.Start entries h = h
    rest_entries event.Settle entries h = h
    rest_entries (event.Change i) entries h = h
    rest_entries (event.Enter place dst) [] h = tt
    rest_entries (event.Enter place dst) (x ∷ entries) h = h.1
    rest_entries (event.Hop i) entries h = h
    rest_entries (event.Lose i) entries h = h

    -- what holds at the end of a driven run
    pub record Reached (st : State) (entries : List Entry) (events : List Event) : Type 0 where
      pub steady : Steady (state_after u.net u.rounds st events)
      pub valid_left : AreEntries u.net (entries_left events entries)
      pub within : left (switch_count u.net) u.rounds (state_after u.net u.rounds st events) (entries_left events entries) + length events ≤ left (switch_count u.net) u.rounds st entries

    pub reached : (m : ℕ) (st : State) (entries : List Entry) (events : List Event) → Steady st → AreEntries u.net entries → IsDriven u chooses m st entries events → Reached st entries events
    reached m st entries [] steady valid_entries driven = record { steady = steady; valid_left = valid_entries; within = omega arith }
    reached m st entries (e ∷ events) steady valid_entries driven =
        let (i, may) = chosen m st entries e driven.0 in
        let rest = reached (suc m) (state_after_event u.net u.rounds st e) (entries_after e entries) events (steady_after st e steady may) (rest_entries e entries valid_entries) driven.1 in
        let less = lowers st entries e steady i may in
        let within = rest.within in
        record { steady = rest.steady; valid_left = rest.valid_left; within = omega arith }

-- a driven run from the beginning is never blocked, and is over once as many events as the full budget are made
module _ (u : Rollout) (valid : IsNetwork u.net) (good : AreGoodRounds u) (once : AllVisitOnce u) (chooses : ℕ → ℕ → ℕ → Type 0) (entries : List Entry) (are : AreEntries u.net entries)
    (events : List Event) (driven : IsDriven u chooses 0 (first_state u.old) entries events) where
  pub never_blocked : AreOffered u (state_after_run u events) (entries_left events entries) [] → IsOver u (state_after_run u events) (entries_left events entries)
  never_blocked none =
      let end = reached u valid good chooses 0 (first_state u.old) entries events (steady_first u valid good once) are driven in
      over_from_none u valid good (state_after_run u events) (entries_left events entries) end.steady end.valid_left none

  pub over_in_time : full_budget u entries ≤ length events → IsOver u (state_after_run u events) (entries_left events entries)
  over_in_time spent =
      let end = reached u valid good chooses 0 (first_state u.old) entries events (steady_first u valid good once) are driven in
      let within = end.within in
      let first = left_first (switch_count u.net) u.rounds entries [] in
      over_from_zero u valid good (state_after_run u events) (entries_left events entries) end.steady end.valid_left (omega arith)
