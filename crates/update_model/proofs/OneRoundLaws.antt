-- In every run each packet walks through the mixtures of one round.
use Rattle.std.proofs.Common.{◌≡◌, ℕ, zero, suc, ◌^◌, ◌<◌, ◌≤◌, Bool, true, false, List, [], ◌∷◌, ◌++◌, length, replicate, set, refl, sym, ◌∙◌, subst, ap, inl, inr, arith, length-set}
use Rattle.std.proofs.lemmas.List.{length-replicate}
use Rattle.std.specs.Prelude.{slice_get, Some}
use Rattle.std.specs.Option.{option_map_or}
use Rattle.std.specs.List.{AllByRecursion}
use Rattle.std.proofs.lemmas.Bool.{cases_eq}
use Rattle.net_base.specs.Members.{IsSameSet}
use Rattle.net_base.specs.Places.{stop_of}
use Rattle.net_base.proofs.WalkLaws.{IsWalk-push, end_of-push}
use Rattle.net_base.proofs.MemberLaws.{IsSubsequence_refl, each_weaker, each_both, each_append, each_set, each_at, map-push}
use Rattle.topology.specs.Networks.{IsEntry}
use Rattle.net_base.specs.declared.ids.SwitchId.{SwitchId}
use Rattle.net_base.specs.declared.ids.Place.{Place}
use Rattle.flow_rules.specs.Tables.{rules_at}
use Rattle.flow_rules.specs.declared.rules.Rule.{Rule}
use Rattle.path_walk.specs.Paths.{outcome_in}
use Rattle.path_walk.specs.declared.Outcome.{Outcome}
use Rattle.path_walk.specs.declared.Outcome.TheVariants.{Discard, Leave, Go}
use Rattle.update_model.specs.Changes.{Applies, IsGoodRound, changes_at, rules_after, tables_after_change, round_after}
use Rattle.update_model.specs.Mixtures.{Rollout, tables_before, MayHold, IsPossible, MayGo, AreGoodRounds}
use Rattle.update_model.specs.OneRound.{WalkedOneRound, EndWasPossible}
use Rattle.update_model.specs.States.{State, first_state, IsUnderWay, settled_count, IsEnabled, entered_packet, hopped_packet, lost_packet, with_packet, phase_after_settle, state_after_event}
use Rattle.update_model.specs.Runs.{AreEnabled, state_after, IsRun, state_after_run}
use Rattle.update_model.specs.declared.Change.{Change}
use Rattle.update_model.specs.declared.Packet.{Packet}
use Rattle.update_model.specs.declared.Phase.{Phase}
use Rattle.update_model.specs.declared.Phase.TheVariants.{Settled, Running}
use Rattle.update_model.specs.declared.Event.{Event}
use Rattle.update_model.specs.declared.Event.TheVariants as event
use Rattle.update_model.proofs.ChangeLaws.{rules_at-after, IsWithin}
use Rattle.update_model.proofs.MadeLaws.{made_of, made_none, made_every, made_some, at_some}
use Rattle.update_model.proofs.RoundLaws.{settled_start, settled_next, holds_more}
use Rattle.net_base.proofs.ItemLaws.{in_from_get}

-- the packet entered in time: while it is under way no later round begins than the one after its entry
abbrev pub InTime : Phase → Packet → Type 0
InTime (Settled k) p = (p.born ≤ k) × (IsUnderWay p → k ≤ suc p.born)
InTime (Running k) p = (suc p.born ≤ k) × (IsUnderWay p → k ≡ suc p.born)

-- the tables are those before the next round, or what the changes that are made leave of them
abbrev pub TablesAre : Rollout → Phase → List (List Rule) → List Bool → Type 0
TablesAre u (Settled k) tables flags = (k ≤ length u.rounds) × ((s : SwitchId) → IsSameSet (rules_at tables s) (rules_at (tables_before u k) s))
TablesAre u (Running zero) tables flags = ⊥
TablesAre u (Running (suc k)) tables flags =
    (k < length u.rounds) × (length flags ≡ length (round_after k u.rounds))
    × ((s : SwitchId) → IsSameSet (rules_at tables s) (rules_after (changes_at s (made_of flags (round_after k u.rounds))) (rules_at (tables_before u k) s)))

-- the packet entered at a host port with a declared VLAN, to an address, when no more rounds were settled than there are
pub record IsAdmitted (u : Rollout) (p : Packet) : Type 0 where
  pub entry : IsEntry u.net p.entry
  pub dst : p.dst < 2 ^ 32
  pub born : p.born ≤ length u.rounds

-- a packet that entered in time, was admitted, and walked through one round's mixtures
abbrev pub IsSound : Rollout → Phase → Packet → Type 0
IsSound u phase p = InTime phase p × WalkedOneRound u p × IsAdmitted u p

-- what holds of every state of a run
pub record Sound (u : Rollout) (st : State) : Type 0 where
  pub tables : TablesAre u st.phase st.tables st.pending
  pub packets : AllByRecursion (IsSound u st.phase) st.packets

-- the tables after a round are what its changes leave
pub next_tables : (u : Rollout) (k : ℕ) → k < length u.rounds → IsGoodRound (tables_before u k) (round_after k u.rounds) → (s : SwitchId)
    → rules_at (tables_before u (suc k)) s ≡ rules_after (changes_at s (round_after k u.rounds)) (rules_at (tables_before u k) s)
next_tables u k less good s =
    ap (λ t. rules_at t s) (settled_next u.rounds k u.old less)
    ∙ rules_at-after (round_after k u.rounds) (tables_before u k) s
    (each_weaker (Applies (tables_before u k)) (IsWithin (length (tables_before u k))) (λ c h. h.0) (round_after k u.rounds) good.applies)

-- what each packet has, each has after one of them moved
pub each_with_packet : (P : Packet → Type 0) (f : Packet → Packet) (packets : List Packet) (i : ℕ) (p : Packet) → slice_get packets i ≡ Some p
    → (P p → P (f p)) → AllByRecursion P packets → AllByRecursion P (with_packet f i packets)
each_with_packet P f packets i p at step all =
    subst (λ o. AllByRecursion P (option_map_or (λ q. set packets i (f q)) o packets)) (sym at)
    (each_set P packets i (f p) all (step (each_at P packets p all (in_from_get packets i p at))))

module _ (u : Rollout) (good : AreGoodRounds u) where
  -- a packet under way finds a mixture of its round at each switch
  held_now : (phase : Phase) (tables : List (List Rule)) (flags : List Bool) → TablesAre u phase tables flags → (p : Packet) → InTime phase p → IsUnderWay p
      → (s : SwitchId) → MayHold u p.born s (rules_at tables s)
  held_now (Settled k) tables flags are p time under s =
      elim (cases_eq p.born k) [
        | inl e ↦ record { made = []; some = tt; same = subst (λ n. IsSameSet (rules_at tables s) (rules_at (tables_before u n) s)) (sym e) (are.1 s) }
        | inr ne ↦ (
            let le = time.0 in
            let ge = time.1 under in
            let next : k ≡ suc p.born = omega arith in
            let less : p.born < length u.rounds = (let h = are.0 in omega arith) in
            record {
              made = changes_at s (round_after p.born u.rounds);
              some = IsSubsequence_refl (changes_at s (round_after p.born u.rounds));
              same = subst (λ t. IsSameSet (rules_at tables s) t) (ap (λ n. rules_at (tables_before u n) s) next ∙ next_tables u p.born less (good p.born less) s) (are.1 s);
            })
      ]
  held_now (Running zero) tables flags are p time under s = absurd are
  held_now (Running (suc k)) tables flags are p time under s =
      let e : suc k ≡ suc p.born = time.1 under in
      let born : k ≡ p.born = omega arith in
      subst (λ n. MayHold u n s (rules_at tables s)) born (record {
        made = changes_at s (made_of flags (round_after k u.rounds));
        some = at_some s (made_of flags (round_after k u.rounds)) (round_after k u.rounds) (made_some flags (round_after k u.rounds));
        same = are.2 s;
      })

  start_tables : (phase : Phase) (tables : List (List Rule)) (flags : List Bool) (k : ℕ) → phase ≡ Settled k → k < length u.rounds → TablesAre u phase tables flags
      → TablesAre u (Running (suc (settled_count phase))) tables (replicate (length (round_after (settled_count phase) u.rounds)) true)
  start_tables (Settled j) tables flags k is less are =
      let same : j ≡ k = cc in (
        omega arith,
        length-replicate (length (round_after j u.rounds)) true,
        λ s. subst (λ m. IsSameSet (rules_at tables s) (rules_after (changes_at s m) (rules_at (tables_before u j) s))) (sym (made_none (round_after j u.rounds))) (are.1 s),
      )
  start_tables (Running j) tables flags k is less are = absurd (let e : Running j ≡ Settled k = is in cc)

  start_packet : (phase : Phase) (k : ℕ) → phase ≡ Settled k → (p : Packet) → (IsUnderWay p → k ≤ p.born) → IsSound u phase p → IsSound u (Running (suc (settled_count phase))) p
  start_packet (Settled j) k is p old sound =
      let same : j ≡ k = cc in
      let born = sound.0.0 in
      ((omega arith, λ under. let h = old under in omega arith), sound.1, sound.2)
  start_packet (Running j) k is p old sound = absurd (let e : Running j ≡ Settled k = is in cc)

  change_tables : (phase : Phase) (tables : List (List Rule)) (flags : List Bool) (k i : ℕ) (c : Change) → phase ≡ Running (suc k)
      → slice_get (round_after k u.rounds) i ≡ Some c → slice_get flags i ≡ Some true → Applies tables c → TablesAre u phase tables flags
      → TablesAre u phase (option_map_or (λ d. tables_after_change d tables) (slice_get (round_after (settled_count phase) u.rounds) i) tables) (set flags i false)
  change_tables (Settled j) tables flags k i c is at flag applies are = absurd (let e : Settled j ≡ Running (suc k) = is in cc)
  change_tables (Running zero) tables flags k i c is at flag applies are = absurd are
  change_tables (Running (suc j)) tables flags k i c is at flag applies are =
      let same : suc j ≡ suc k = cc in
      let e : k ≡ j = omega arith in
      let here : slice_get (round_after j u.rounds) i ≡ Some c = subst (λ n. slice_get (round_after n u.rounds) i ≡ Some c) e at in
      subst (λ o. TablesAre u (Running (suc j)) (option_map_or (λ d. tables_after_change d tables) o tables) (set flags i false)) (sym here) (
        are.0,
        length-set flags i false ∙ are.1,
        holds_more (tables_before u j) (round_after j u.rounds) (good j are.0) tables flags i c here flag applies are.2,
      )

  settle_tables : (phase : Phase) (tables : List (List Rule)) (flags : List Bool) (k : ℕ) → phase ≡ Running k → AllByRecursion (λ b. b ≡ false) flags
      → TablesAre u phase tables flags → TablesAre u (phase_after_settle phase) tables flags
  settle_tables (Settled j) tables flags k is off are = absurd (let e : Settled j ≡ Running k = is in cc)
  settle_tables (Running zero) tables flags k is off are = absurd are
  settle_tables (Running (suc j)) tables flags k is off are = (
    are.0,
    λ s. subst (λ t. IsSameSet (rules_at tables s) t)
        (ap (λ m. rules_after (changes_at s m) (rules_at (tables_before u j) s)) (made_every flags (round_after j u.rounds) are.1 off) ∙ sym (next_tables u j are.0 (good j are.0) s)) (are.2 s),
  )

  settle_packet : (phase : Phase) (k : ℕ) → phase ≡ Running k → (p : Packet) → IsSound u phase p → IsSound u (phase_after_settle phase) p
  settle_packet (Settled j) k is p sound = absurd (let e : Settled j ≡ Running k = is in cc)
  settle_packet (Running j) k is p sound =
      let born = sound.0.0 in
      ((omega arith, λ under. let h = sound.0.1 under in omega arith), sound.1, sound.2)

  entered_sound : (phase : Phase) (tables : List (List Rule)) (flags : List Bool) → TablesAre u phase tables flags → (place : Place) (dst : ℕ) → IsEntry u.net place → dst < 2 ^ 32
      → IsSound u phase (entered_packet place dst (settled_count phase))
  entered_sound (Settled k) tables flags are place dst entry fits =
      ((omega arith, λ _. omega arith), record { rest = []; walk = tt; at_is = refl; visits_are = refl; ended = tt }, record { entry = entry; dst = fits; born = are.0 })
  entered_sound (Running zero) tables flags are place dst entry fits = absurd are
  entered_sound (Running (suc k)) tables flags are place dst entry fits =
      ((omega arith, λ _. refl), record { rest = []; walk = tt; at_is = refl; visits_are = refl; ended = tt }, record { entry = entry; dst = fits; born = (let h = are.0 in omega arith) })

  -- a packet that hops by a possible outcome still walks through its round's mixtures
  hopped_walks : (p : Packet) (found : Outcome) → IsUnderWay p → WalkedOneRound u p → IsPossible u p.born p.dst p.at found → WalkedOneRound u (hopped_packet p found)
  hopped_walks p (Go next) under w possible = record {
    rest = w.rest ++ next ∷ [];
    walk = IsWalk-push (MayGo u p.born p.dst) p.entry w.rest next w.walk (subst (λ x. MayGo u p.born p.dst x next) (sym w.at_is) possible);
    at_is = end_of-push p.entry w.rest next;
    visits_are = ap (λ v. v ++ stop_of next ∷ []) w.visits_are ∙ sym (map-push stop_of (p.entry ∷ w.rest) next);
    ended = subst (λ e. EndWasPossible u (hopped_packet p (Go next)) e) (sym under) tt;
  }
  hopped_walks p Discard under w possible = record { rest = w.rest; walk = w.walk; at_is = w.at_is; visits_are = w.visits_are; ended = (refl, possible) }
  hopped_walks p (Leave port vlan) under w possible = record { rest = w.rest; walk = w.walk; at_is = w.at_is; visits_are = w.visits_are; ended = (refl, possible) }

  -- what a hop and a loss keep of the time
  hopped_in_time : (phase : Phase) (p : Packet) (found : Outcome) → IsUnderWay p → InTime phase p → InTime phase (hopped_packet p found)
  hopped_in_time (Settled k) p (Go next) under time = (time.0, time.1)
  hopped_in_time (Settled k) p Discard under time = (time.0, λ _. time.1 under)
  hopped_in_time (Settled k) p (Leave port vlan) under time = (time.0, λ _. time.1 under)
  hopped_in_time (Running k) p (Go next) under time = (time.0, time.1)
  hopped_in_time (Running k) p Discard under time = (time.0, λ _. time.1 under)
  hopped_in_time (Running k) p (Leave port vlan) under time = (time.0, λ _. time.1 under)

  hopped_admitted : (p : Packet) (found : Outcome) → IsAdmitted u p → IsAdmitted u (hopped_packet p found)
  hopped_admitted p (Go next) h = record { entry = h.entry; dst = h.dst; born = h.born }
  hopped_admitted p Discard h = record { entry = h.entry; dst = h.dst; born = h.born }
  hopped_admitted p (Leave port vlan) h = record { entry = h.entry; dst = h.dst; born = h.born }

  lost_sound : (phase : Phase) (p : Packet) → IsUnderWay p → IsSound u phase p → IsSound u phase (lost_packet p)
  lost_sound (Settled k) p under sound = ((sound.0.0, λ _. sound.0.1 under), record { rest = sound.1.rest; walk = sound.1.walk; at_is = sound.1.at_is; visits_are = sound.1.visits_are; ended = tt }, record { entry = sound.2.entry; dst = sound.2.dst; born = sound.2.born })
  lost_sound (Running k) p under sound = ((sound.0.0, λ _. sound.0.1 under), record { rest = sound.1.rest; walk = sound.1.walk; at_is = sound.1.at_is; visits_are = sound.1.visits_are; ended = tt }, record { entry = sound.2.entry; dst = sound.2.dst; born = sound.2.born })

  pub sound_after : (st : State) (e : Event) → Sound u st → IsEnabled u.net u.rounds st e → Sound u (state_after_event u.net u.rounds st e)
  sound_after st event.Start sound may = record {
    tables = start_tables st.phase st.tables st.pending may.k may.settled may.more sound.tables;
    packets = each_both (λ p. IsUnderWay p → may.k ≤ p.born) (IsSound u st.phase) (IsSound u (Running (suc (settled_count st.phase)))) (start_packet st.phase may.k may.settled) st.packets may.none_older sound.packets;
  }
  sound_after st (event.Change i) sound may = record {
    tables = change_tables st.phase st.tables st.pending may.k i may.change may.running may.is may.pending may.applies sound.tables;
    packets = sound.packets;
  }
  sound_after st event.Settle sound may = record {
    tables = settle_tables st.phase st.tables st.pending may.k may.running may.none_pending sound.tables;
    packets = each_weaker (IsSound u st.phase) (IsSound u (phase_after_settle st.phase)) (settle_packet st.phase may.k may.running) st.packets sound.packets;
  }
  sound_after st (event.Enter place dst) sound may = record {
    tables = sound.tables;
    packets = each_append (IsSound u st.phase) st.packets (entered_packet place dst (settled_count st.phase) ∷ []) sound.packets (entered_sound st.phase st.tables st.pending sound.tables place dst may.0 may.1, tt);
  }
  sound_after st (event.Hop i) sound may = record {
    tables = sound.tables;
    packets = each_with_packet (IsSound u st.phase) (λ p. hopped_packet p (outcome_in u.net st.tables p.at p.dst)) st.packets i may.0 may.1
        (λ s. (
          hopped_in_time st.phase may.0 (outcome_in u.net st.tables may.0.at may.0.dst) may.2 s.0,
          hopped_walks may.0 (outcome_in u.net st.tables may.0.at may.0.dst) may.2 s.1
              (record { mixed = rules_at st.tables may.0.at.switch; held = held_now st.phase st.tables st.pending sound.tables may.0 s.0 may.2 may.0.at.switch; is = refl }),
          hopped_admitted may.0 (outcome_in u.net st.tables may.0.at may.0.dst) s.2,
        ))
        sound.packets;
  }
  sound_after st (event.Lose i) sound may = record {
    tables = sound.tables;
    packets = each_with_packet (IsSound u st.phase) lost_packet st.packets i may.0 may.1 (lost_sound st.phase may.0 may.2) sound.packets;
  }

  pub sound_run : (st : State) (events : List Event) → Sound u st → AreEnabled u.net u.rounds st events → Sound u (state_after u.net u.rounds st events)
  sound_run st [] sound enabled = sound
  sound_run st (e ∷ events) sound enabled = sound_run (state_after_event u.net u.rounds st e) events (sound_after st e sound enabled.0) enabled.1

  pub first_sound : Sound u (first_state u.old)
  first_sound = record { tables = (omega arith, λ s. subst (λ t. IsSameSet (rules_at u.old s) (rules_at t s)) (sym (settled_start u.rounds u.old)) (λ r. (λ j. j, λ j. j))); packets = tt }

  -- in every run each packet walks through the mixtures of one round
  pub walks_one_round : (events : List Event) → IsRun u events → AllByRecursion (WalkedOneRound u) (state_after_run u events).packets
  walks_one_round events run =
      let sound = sound_run (first_state u.old) events first_sound run in
      each_weaker (IsSound u (state_after_run u events).phase) (WalkedOneRound u) (λ p s. s.1) (state_after_run u events).packets sound.packets

  -- and was admitted
  pub is_admitted : (events : List Event) → IsRun u events → AllByRecursion (IsAdmitted u) (state_after_run u events).packets
  is_admitted events run =
      let sound = sound_run (first_state u.old) events first_sound run in
      each_weaker (IsSound u (state_after_run u events).phase) (IsAdmitted u) (λ p s. s.2) (state_after_run u events).packets sound.packets
