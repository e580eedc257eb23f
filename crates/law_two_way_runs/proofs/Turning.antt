-- In every run both ways each switch has a mixture of the running round, and each packet walks through the mixtures of one round.
use Rattle.std.proofs.Common.{◌≡◌, ◌⊎◌, ℕ, zero, suc, ◌^◌, ◌<◌, ◌≤◌, Bool, true, false, not, List, [], ◌∷◌, ◌++◌, length, map, replicate, set, refl, sym, ◌∙◌, subst, ap, inl, inr, arith, length-set}
use Rattle.std.proofs.lemmas.List.{length-replicate, length-map}
use Rattle.std.specs.Prelude.{slice_get, Some}
use Rattle.std.specs.Option.{option_map_or}
use Rattle.std.specs.List.{AllByRecursion}
use Rattle.std.proofs.lemmas.Bool.{cases_lt}
use Rattle.net_base.specs.Members.{IsSameSet}
use Rattle.net_base.specs.Places.{stop_of}
use Rattle.net_base.proofs.WalkLaws.{IsWalk-push, end_of-push}
use Rattle.net_base.proofs.MemberLaws.{IsSubsequence_refl, each_weaker, each_both, each_append, each_at, map-push}
use Rattle.net_base.proofs.ItemLaws.{in_from_get}
use Rattle.net_base.specs.declared.ids.SwitchId.{SwitchId}
use Rattle.net_base.specs.declared.ids.Place.{Place}
use Rattle.topology.specs.Networks.{IsEntry}
use Rattle.flow_rules.specs.Tables.{rules_at}
use Rattle.flow_rules.specs.declared.rules.Rule.{Rule}
use Rattle.path_walk.specs.Paths.{outcome_in}
use Rattle.path_walk.specs.declared.Ended.TheVariants.{UnderWay, Lost}
use Rattle.path_walk.specs.declared.Outcome.{Outcome}
use Rattle.path_walk.specs.declared.Outcome.TheVariants.{Discard, Leave, Go}
use Rattle.update_model.specs.Changes.{switch_of, Applies, changes_at, rules_after, tables_after_change, round_after}
use Rattle.update_model.specs.Mixtures.{Rollout, tables_before, MayHold, IsPossible, MayGo, AreGoodRounds}
use Rattle.update_model.specs.OneRound.{EndWasPossible}
use Rattle.update_model.specs.States.{IsUnderWay, entered_packet, hopped_packet, lost_packet, phase_after_settle, settled_count}
use Rattle.update_model.specs.declared.Change.{Change}
use Rattle.update_model.specs.declared.Event.TheVariants as event
use Rattle.update_model.specs.declared.Packet.{Packet}
use Rattle.update_model.specs.declared.Phase.{Phase}
use Rattle.update_model.specs.declared.Phase.TheVariants.{Settled, Running}
use Rattle.update_model.proofs.MadeLaws.{made_of, made_none, made_every, made_some, at_some}
use Rattle.update_model.proofs.OneRoundLaws.{next_tables, each_with_packet}
use Rattle.update_model.proofs.RoundLaws.{settled_start, holds_more, length-settled}
use Rattle.law_two_way_runs.specs.States.{TwoWayEvent, TwoWayState, Onward, Undo, Back, SettleBack, first_two_way, IsTwoWayEnabled, two_way_after, tables_undone, turned_back}
use Rattle.law_two_way_runs.specs.Runs.{AreTwoWayEnabled, two_way_state, IsTwoWayRun, state_after_two_way}
use Rattle.law_two_way_runs.specs.Laws.{TablesAreMixtures, WalkedRound, WalkedSomeRound}
use Rattle.law_two_way_runs.proofs.Flags.{turned_set, turned_get, turned_replicate, turned_all, turned_none, all_on, replicate_off}
use Rattle.law_two_way_runs.proofs.Undone.{holds_fewer}

-- round k is the next one where j rounds are settled, or the last one
abbrev pub IsBeside : ℕ → ℕ → Type 0
IsBeside j k = (k ≡ j) ⊎ (suc k ≡ j)

-- a packet under way entered since the last round was settled, and may walk on in the round before and in the one behind; or just before, and walked in the round that was settled
pub record IsBetween (u : Rollout) (j settles : ℕ) (p : Packet) : Type 0 where
  pub late : settles ≤ suc p.born
  pub fresh : settles ≤ p.born → (k : ℕ) → IsBeside j k → WalkedRound u k p
  pub older : p.born < settles → (k : ℕ) × IsBeside j k × WalkedRound u k p

-- a packet under way is in time for the round that runs, or for one beside
abbrev pub InTime : Rollout → Phase → ℕ → Packet → Type 0
InTime u (Settled j) settles p = IsUnderWay p → IsBetween u j settles p
InTime u (Running zero) settles p = Unit {0}
InTime u (Running (suc k)) settles p = IsUnderWay p → (settles ≤ p.born) × WalkedRound u k p

-- the tables are those before the next round, or what the changes in force leave of those before the running one
abbrev pub TablesAre : Rollout → Phase → List (List Rule) → List Bool → Type 0
TablesAre u (Settled k) tables in_force = (k ≤ length u.rounds) × ((s : SwitchId) → IsSameSet (rules_at tables s) (rules_at (tables_before u k) s))
TablesAre u (Running zero) tables in_force = ⊥
TablesAre u (Running (suc k)) tables in_force =
    (k < length u.rounds) × (length in_force ≡ length (round_after k u.rounds))
    × ((s : SwitchId) → IsSameSet (rules_at tables s) (rules_after (changes_at s (made_of (map not in_force) (round_after k u.rounds))) (rules_at (tables_before u k) s)))

-- a packet that entered as packets do, is in time, and walked through one round's mixtures
pub record IsSound (u : Rollout) (phase : Phase) (settles : ℕ) (p : Packet) : Type 0 where
  pub walked : WalkedSomeRound u p
  pub entry : IsEntry u.net p.entry
  pub dst : p.dst < 2 ^ 32
  pub born : p.born ≤ settles
  pub in_time : InTime u phase settles p

-- what holds of every state
pub record Sound (u : Rollout) (st : TwoWayState) : Type 0 where
  pub count : length st.tables ≡ length u.old
  pub tables : TablesAre u st.phase st.tables st.in_force
  pub packets : AllByRecursion (IsSound u st.phase st.settles) st.packets

module _ (u : Rollout) (good : AreGoodRounds u) where
  -- a switch has a mixture of the round that runs
  held_running : (k : ℕ) (tables : List (List Rule)) (in_force : List Bool) → TablesAre u (Running (suc k)) tables in_force → (s : SwitchId) → MayHold u k s (rules_at tables s)
  held_running k tables in_force are s = record {
    made = changes_at s (made_of (map not in_force) (round_after k u.rounds));
    some = at_some s (made_of (map not in_force) (round_after k u.rounds)) (round_after k u.rounds) (made_some (map not in_force) (round_after k u.rounds));
    same = are.2 s;
  }

  -- and between rounds one of either round beside
  held_settled : (j : ℕ) (tables : List (List Rule)) (in_force : List Bool) → TablesAre u (Settled j) tables in_force → (k : ℕ) → IsBeside j k → (s : SwitchId) → MayHold u k s (rules_at tables s)
  held_settled j tables in_force are k (inl e) s =
      record { made = []; some = tt; same = subst (λ n. IsSameSet (rules_at tables s) (rules_at (tables_before u n) s)) (sym e) (are.1 s) }
  held_settled j tables in_force are k (inr e) s =
      let less : k < length u.rounds = (let h = are.0 in omega arith) in
      record {
        made = changes_at s (round_after k u.rounds);
        some = IsSubsequence_refl (changes_at s (round_after k u.rounds));
        same = subst (λ t. IsSameSet (rules_at tables s) t) (ap (λ n. rules_at (tables_before u n) s) (sym e) ∙ next_tables u k less (good k less) s) (are.1 s);
      }

  beside_within : (j k : ℕ) → j ≤ length u.rounds → IsBeside j k → k ≤ length u.rounds
  beside_within j k within (inl e) = omega arith
  beside_within j k within (inr e) = omega arith

  -- a packet that hops by a possible outcome still walks through the round's mixtures
  hopped_walks : (p : Packet) (k : ℕ) (found : Outcome) → IsUnderWay p → WalkedRound u k p → IsPossible u k p.dst p.at found → WalkedRound u k (hopped_packet p found)
  hopped_walks p k (Go next) under w possible = record {
    rest = w.rest ++ next ∷ [];
    walk = IsWalk-push (MayGo u k p.dst) p.entry w.rest next w.walk (subst (λ x. MayGo u k p.dst x next) (sym w.at_is) possible);
    at_is = end_of-push p.entry w.rest next;
    visits_are = ap (λ v. v ++ stop_of next ∷ []) w.visits_are ∙ sym (map-push stop_of (p.entry ∷ w.rest) next);
    ended = subst (λ e. EndWasPossible u (record (hopped_packet p (Go next)) { born = k }) e) (sym under) tt;
  }
  hopped_walks p k Discard under w possible = record { rest = w.rest; walk = w.walk; at_is = w.at_is; visits_are = w.visits_are; ended = (refl, possible) }
  hopped_walks p k (Leave port vlan) under w possible = record { rest = w.rest; walk = w.walk; at_is = w.at_is; visits_are = w.visits_are; ended = (refl, possible) }

  -- what a hop leaves as it is
  hopped_entry : (p : Packet) (found : Outcome) → IsEntry u.net p.entry → IsEntry u.net (hopped_packet p found).entry
  hopped_entry p (Go next) h = h
  hopped_entry p Discard h = h
  hopped_entry p (Leave port vlan) h = h

  hopped_dst : (p : Packet) (found : Outcome) → p.dst < 2 ^ 32 → (hopped_packet p found).dst < 2 ^ 32
  hopped_dst p (Go next) h = h
  hopped_dst p Discard h = h
  hopped_dst p (Leave port vlan) h = h

  hopped_born : (p : Packet) (found : Outcome) → (hopped_packet p found).born ≡ p.born
  hopped_born p (Go next) = refl
  hopped_born p Discard = refl
  hopped_born p (Leave port vlan) = refl

  module _ (tables : List (List Rule)) (in_force : List Bool) (settles : ℕ) (p : Packet) (under : IsUnderWay p) where
    found : Outcome
    found = outcome_in u.net tables p.at p.dst

    possible : (k : ℕ) → MayHold u k p.at.switch (rules_at tables p.at.switch) → IsPossible u k p.dst p.at (outcome_in u.net tables p.at p.dst)
    possible k held = record { mixed = rules_at tables p.at.switch; held = held; is = refl }

    hopped_between : (j : ℕ) → TablesAre u (Settled j) tables in_force → IsBetween u j settles p → IsBetween u j settles (hopped_packet p (outcome_in u.net tables p.at p.dst))
    hopped_between j are between =
        let born = hopped_born p (outcome_in u.net tables p.at p.dst) in
        record {
          late = subst (λ b. settles ≤ suc b) (sym born) between.late;
          fresh = λ now k beside.
              hopped_walks p k (outcome_in u.net tables p.at p.dst) under (between.fresh (subst (λ b. settles ≤ b) born now) k beside) (possible k (held_settled j tables in_force are k beside p.at.switch));
          older = λ before.
              let (k, beside, walked) = between.older (subst (λ b. b < settles) born before) in
              (k, beside, hopped_walks p k (outcome_in u.net tables p.at p.dst) under walked (possible k (held_settled j tables in_force are k beside p.at.switch)));
        }

    walked_between : (j : ℕ) (q : Packet) → j ≤ length u.rounds → IsBetween u j settles q → WalkedSomeRound u q
    walked_between j q within between =
        elim (cases_lt q.born settles) [
          | inl before ↦ (let (k, beside, walked) = between.older before in (k, beside_within j k within beside, walked))
          | inr now ↦ (j, within, between.fresh (omega arith) j (inl refl))
        ]

    hopped_sound : (phase : Phase) → TablesAre u phase tables in_force → IsSound u phase settles p → IsSound u phase settles (hopped_packet p (outcome_in u.net tables p.at p.dst))
    hopped_sound (Settled j) are sound =
        let between = hopped_between j are (sound.in_time under) in
        record {
          walked = walked_between j (hopped_packet p (outcome_in u.net tables p.at p.dst)) are.0 between;
          entry = hopped_entry p (outcome_in u.net tables p.at p.dst) sound.entry;
          dst = hopped_dst p (outcome_in u.net tables p.at p.dst) sound.dst;
          born = subst (λ b. b ≤ settles) (sym (hopped_born p (outcome_in u.net tables p.at p.dst))) sound.born;
          in_time = λ _. between;
        }
    hopped_sound (Running zero) are sound = absurd are
    hopped_sound (Running (suc k)) are sound =
        let (late, before) = sound.in_time under in
        let walked = hopped_walks p k (outcome_in u.net tables p.at p.dst) under before (possible k (held_running k tables in_force are p.at.switch)) in
        record {
          walked = (k, (let h = are.0 in omega arith), walked);
          entry = hopped_entry p (outcome_in u.net tables p.at p.dst) sound.entry;
          dst = hopped_dst p (outcome_in u.net tables p.at p.dst) sound.dst;
          born = subst (λ b. b ≤ settles) (sym (hopped_born p (outcome_in u.net tables p.at p.dst))) sound.born;
          in_time = λ _. (subst (λ b. settles ≤ b) (sym (hopped_born p (outcome_in u.net tables p.at p.dst))) late, walked);
        }

  -- a packet that is lost isn't under way
  not_under_way : (phase : Phase) (settles : ℕ) (p : Packet) → ¬ IsUnderWay p → InTime u phase settles p
  not_under_way (Settled j) settles p ended = λ under. absurd (ended under)
  not_under_way (Running zero) settles p ended = tt
  not_under_way (Running (suc k)) settles p ended = λ under. absurd (ended under)

  lost_sound : (phase : Phase) (settles : ℕ) (p : Packet) → IsSound u phase settles p → IsSound u phase settles (lost_packet p)
  lost_sound phase settles p sound =
      let (k, within, w) = sound.walked in
      record {
        walked = (k, within, record { rest = w.rest; walk = w.walk; at_is = w.at_is; visits_are = w.visits_are; ended = tt });
        entry = sound.entry;
        dst = sound.dst;
        born = sound.born;
        in_time = not_under_way phase settles (lost_packet p) (λ under. let e : Lost ≡ UnderWay = under in cc);
      }

  -- a packet that enters
  entered_walks : (k settles : ℕ) (place : Place) (dst : ℕ) → WalkedRound u k (entered_packet place dst settles)
  entered_walks k settles place dst = record { rest = []; walk = tt; at_is = refl; visits_are = refl; ended = tt }

  entered_sound : (phase : Phase) (settles : ℕ) (tables : List (List Rule)) (in_force : List Bool) → TablesAre u phase tables in_force → (place : Place) (dst : ℕ) → IsEntry u.net place
      → dst < 2 ^ 32 → IsSound u phase settles (entered_packet place dst settles)
  entered_sound (Settled j) settles tables in_force are place dst entry fits = record {
    walked = (j, are.0, entered_walks j settles place dst);
    entry = entry;
    dst = fits;
    born = omega arith;
    in_time = λ _. record { late = omega arith; fresh = λ now k beside. entered_walks k settles place dst; older = λ before. absurd (omega arith) };
  }
  entered_sound (Running zero) settles tables in_force are place dst entry fits = absurd are
  entered_sound (Running (suc k)) settles tables in_force are place dst entry fits = record {
    walked = (k, (let h = are.0 in omega arith), entered_walks k settles place dst);
    entry = entry;
    dst = fits;
    born = omega arith;
    in_time = λ _. (omega arith, entered_walks k settles place dst);
  }

  -- the same packet in another phase
  in_phase : (phase next : Phase) (settles later : ℕ) (p : Packet) → settles ≤ later → InTime u next later p → IsSound u phase settles p → IsSound u next later p
  in_phase phase next settles later p le time sound =
      record { walked = sound.walked; entry = sound.entry; dst = sound.dst; born = (let h = sound.born in omega arith); in_time = time }

  -- the next round begins
  start_tables : (phase : Phase) (tables : List (List Rule)) (in_force : List Bool) (k : ℕ) → phase ≡ Settled k → k < length u.rounds → TablesAre u phase tables in_force
      → TablesAre u (Running (suc (settled_count phase))) tables (replicate (length (round_after (settled_count phase) u.rounds)) false)
  start_tables (Settled j) tables in_force k is less are =
      let same : j ≡ k = cc in
      let none : made_of (map not (replicate (length (round_after j u.rounds)) false)) (round_after j u.rounds) ≡ [] =
      ap (λ flags. made_of flags (round_after j u.rounds)) (turned_replicate (length (round_after j u.rounds)) false) ∙ made_none (round_after j u.rounds) in (
        omega arith,
        length-replicate (length (round_after j u.rounds)) false,
        λ s. subst (λ m. IsSameSet (rules_at tables s) (rules_after (changes_at s m) (rules_at (tables_before u j) s))) (sym none) (are.1 s),
      )
  start_tables (Running j) tables in_force k is less are = absurd (let e : Running j ≡ Settled k = is in cc)

  start_packet : (phase : Phase) (settles k : ℕ) → phase ≡ Settled k → (p : Packet) → (IsUnderWay p → settles ≤ p.born) → IsSound u phase settles p
      → IsSound u (Running (suc (settled_count phase))) settles p
  start_packet (Settled j) settles k is p old sound =
      in_phase (Settled j) (Running (suc j)) settles settles p (omega arith) (λ under. (old under, (sound.in_time under).fresh (old under) j (inl refl))) sound
  start_packet (Running j) settles k is p old sound = absurd (let e : Running j ≡ Settled k = is in cc)

  -- the round that was settled last runs again
  back_tables : (phase : Phase) (tables : List (List Rule)) (in_force : List Bool) (k : ℕ) → phase ≡ Settled (suc k) → TablesAre u phase tables in_force
      → TablesAre u (turned_back phase) tables (replicate (length (round_after (settled_count (turned_back phase)) u.rounds)) true)
  back_tables (Settled zero) tables in_force k is are = absurd (let e : Settled zero ≡ Settled (suc k) = is in cc)
  back_tables (Settled (suc j)) tables in_force k is are =
      let less : j < length u.rounds = (let h = are.0 in omega arith) in
      let every : made_of (map not (replicate (length (round_after j u.rounds)) true)) (round_after j u.rounds) ≡ round_after j u.rounds =
      ap (λ flags. made_of flags (round_after j u.rounds)) (turned_replicate (length (round_after j u.rounds)) true)
      ∙ made_every (replicate (length (round_after j u.rounds)) false) (round_after j u.rounds) (length-replicate (length (round_after j u.rounds)) false) (replicate_off (length (round_after j u.rounds))) in (
        less,
        length-replicate (length (round_after j u.rounds)) true,
        λ s. subst (λ t. IsSameSet (rules_at tables s) t)
            (next_tables u j less (good j less) s ∙ sym (ap (λ m. rules_after (changes_at s m) (rules_at (tables_before u j) s)) every)) (are.1 s),
      )
  back_tables (Running j) tables in_force k is are = absurd (let e : Running j ≡ Settled (suc k) = is in cc)

  back_packet : (phase : Phase) (settles k : ℕ) → phase ≡ Settled (suc k) → (p : Packet) → (IsUnderWay p → settles ≤ p.born) → IsSound u phase settles p
      → IsSound u (turned_back phase) settles p
  back_packet (Settled zero) settles k is p old sound = absurd (let e : Settled zero ≡ Settled (suc k) = is in cc)
  back_packet (Settled (suc j)) settles k is p old sound =
      in_phase (Settled (suc j)) (Running (suc j)) settles settles p (omega arith) (λ under. (old under, (sound.in_time under).fresh (old under) j (inr refl))) sound
  back_packet (Running j) settles k is p old sound = absurd (let e : Running j ≡ Settled (suc k) = is in cc)

  -- a change is made
  change_tables : (phase : Phase) (tables : List (List Rule)) (in_force : List Bool) (k i : ℕ) (c : Change) → phase ≡ Running (suc k)
      → slice_get (round_after k u.rounds) i ≡ Some c → slice_get in_force i ≡ Some false → Applies tables c → TablesAre u phase tables in_force
      → TablesAre u phase (option_map_or (λ d. tables_after_change d tables) (slice_get (round_after (settled_count phase) u.rounds) i) tables) (set in_force i true)
  change_tables (Settled j) tables in_force k i c is at flag applies are = absurd (let e : Settled j ≡ Running (suc k) = is in cc)
  change_tables (Running zero) tables in_force k i c is at flag applies are = absurd are
  change_tables (Running (suc j)) tables in_force k i c is at flag applies are =
      let same : suc j ≡ suc k = cc in
      let e : k ≡ j = omega arith in
      let here : slice_get (round_after j u.rounds) i ≡ Some c = subst (λ n. slice_get (round_after n u.rounds) i ≡ Some c) e at in
      let more = holds_more (tables_before u j) (round_after j u.rounds) (good j are.0) tables (map not in_force) i c here (turned_get in_force i false flag) applies are.2 in
      subst (λ o. TablesAre u (Running (suc j)) (option_map_or (λ d. tables_after_change d tables) o tables) (set in_force i true)) (sym here) (
        are.0,
        length-set in_force i true ∙ are.1,
        λ s. subst (λ flags. IsSameSet (rules_at (tables_after_change c tables) s) (rules_after (changes_at s (made_of flags (round_after j u.rounds))) (rules_at (tables_before u j) s)))
            (sym (turned_set in_force i true)) (more s),
      )

  -- a change is taken back
  undo_tables : (phase : Phase) (tables : List (List Rule)) (in_force : List Bool) (k i : ℕ) (c : Change) → phase ≡ Running (suc k)
      → slice_get (round_after k u.rounds) i ≡ Some c → slice_get in_force i ≡ Some true → length tables ≡ length u.old → TablesAre u phase tables in_force
      → TablesAre u phase (option_map_or (λ d. tables_undone u (settled_count phase) d tables) (slice_get (round_after (settled_count phase) u.rounds) i) tables) (set in_force i false)
  undo_tables (Settled j) tables in_force k i c is at flag count are = absurd (let e : Settled j ≡ Running (suc k) = is in cc)
  undo_tables (Running zero) tables in_force k i c is at flag count are = absurd are
  undo_tables (Running (suc j)) tables in_force k i c is at flag count are =
      let same : suc j ≡ suc k = cc in
      let e : k ≡ j = omega arith in
      let here : slice_get (round_after j u.rounds) i ≡ Some c = subst (λ n. slice_get (round_after n u.rounds) i ≡ Some c) e at in
      let applies : Applies (tables_before u j) c = each_at (Applies (tables_before u j)) (round_after j u.rounds) c (good j are.0).applies (in_from_get (round_after j u.rounds) i c here) in
      let within : (switch_of c).0 < length tables = subst (λ n. (switch_of c).0 < n) (length-settled u.rounds j u.old ∙ sym count) applies.0 in
      let fewer = holds_fewer (tables_before u j) (round_after j u.rounds) (good j are.0) tables (map not in_force) i c here (turned_get in_force i true flag) within are.2 in
      subst (λ o. TablesAre u (Running (suc j)) (option_map_or (λ d. tables_undone u j d tables) o tables) (set in_force i false)) (sym here) (
        are.0,
        length-set in_force i false ∙ are.1,
        λ s. subst (λ flags. IsSameSet (rules_at (tables_undone u j c tables) s) (rules_after (changes_at s (made_of flags (round_after j u.rounds))) (rules_at (tables_before u j) s)))
            (sym (turned_set in_force i false)) (fewer s),
      )

  -- the round is settled
  settle_tables : (phase : Phase) (tables : List (List Rule)) (in_force : List Bool) (k : ℕ) → phase ≡ Running k → AllByRecursion (λ b. b ≡ true) in_force
      → TablesAre u phase tables in_force → TablesAre u (phase_after_settle phase) tables in_force
  settle_tables (Settled j) tables in_force k is on are = absurd (let e : Settled j ≡ Running k = is in cc)
  settle_tables (Running zero) tables in_force k is on are = absurd are
  settle_tables (Running (suc j)) tables in_force k is on are =
      let every : made_of (map not in_force) (round_after j u.rounds) ≡ round_after j u.rounds =
      made_every (map not in_force) (round_after j u.rounds) (length-map in_force not ∙ are.1) (turned_all in_force on) in (
        are.0,
        λ s. subst (λ t. IsSameSet (rules_at tables s) t)
            (ap (λ m. rules_after (changes_at s m) (rules_at (tables_before u j) s)) every ∙ sym (next_tables u j are.0 (good j are.0) s)) (are.2 s),
      )

  settle_packet : (phase : Phase) (settles k : ℕ) → phase ≡ Running k → (tables : List (List Rule)) (in_force : List Bool) → TablesAre u phase tables in_force → (p : Packet)
      → IsSound u phase settles p → IsSound u (phase_after_settle phase) (suc settles) p
  settle_packet (Settled j) settles k is tables in_force are p sound = absurd (let e : Settled j ≡ Running k = is in cc)
  settle_packet (Running zero) settles k is tables in_force are p sound = absurd are
  settle_packet (Running (suc j)) settles k is tables in_force are p sound =
      in_phase (Running (suc j)) (Settled (suc j)) settles (suc settles) p (omega arith)
      (λ under. record {
        late = (let h = (sound.in_time under).0 in omega arith);
        fresh = λ now. absurd (let h = sound.born in omega arith);
        older = λ _. (j, inr refl, (sound.in_time under).1);
      }) sound

  -- the round that was taken back is settled
  settle_back_tables : (phase : Phase) (tables : List (List Rule)) (in_force : List Bool) (k : ℕ) → phase ≡ Running (suc k) → AllByRecursion (λ b. b ≡ false) in_force
      → TablesAre u phase tables in_force → TablesAre u (Settled (settled_count phase)) tables in_force
  settle_back_tables (Settled j) tables in_force k is off are = absurd (let e : Settled j ≡ Running (suc k) = is in cc)
  settle_back_tables (Running zero) tables in_force k is off are = absurd are
  settle_back_tables (Running (suc j)) tables in_force k is off are =
      let count : length (map not in_force) ≡ length (round_after j u.rounds) = length-map in_force not ∙ are.1 in
      let none : made_of (map not in_force) (round_after j u.rounds) ≡ [] =
      ap (λ flags. made_of flags (round_after j u.rounds)) (all_on (map not in_force) (turned_none in_force off) ∙ ap (λ n. replicate n true) count) ∙ made_none (round_after j u.rounds) in (
        (let h = are.0 in omega arith),
        λ s. subst (λ m. IsSameSet (rules_at tables s) (rules_after (changes_at s m) (rules_at (tables_before u j) s))) none (are.2 s),
      )

  settle_back_packet : (phase : Phase) (settles k : ℕ) → phase ≡ Running (suc k) → (p : Packet) → IsSound u phase settles p → IsSound u (Settled (settled_count phase)) (suc settles) p
  settle_back_packet (Settled j) settles k is p sound = absurd (let e : Settled j ≡ Running (suc k) = is in cc)
  settle_back_packet (Running zero) settles k is p sound = absurd (let e : Running zero ≡ Running (suc k) = is in cc)
  settle_back_packet (Running (suc j)) settles k is p sound =
      in_phase (Running (suc j)) (Settled j) settles (suc settles) p (omega arith)
      (λ under. record {
        late = (let h = (sound.in_time under).0 in omega arith);
        fresh = λ now. absurd (let h = sound.born in omega arith);
        older = λ _. (j, inl refl, (sound.in_time under).1);
      }) sound

  -- how many tables there are after a change that may be missing
  changed_count : (f : Change → List (List Rule)) (tables : List (List Rule)) → ((c : Change) → length (f c) ≡ length tables) → (round : List Change) (i : ℕ)
      → length (option_map_or f (slice_get round i) tables) ≡ length tables
  changed_count f tables same [] i = refl
  changed_count f tables same (c ∷ round) zero = same c
  changed_count f tables same (c ∷ round) (suc i) = changed_count f tables same round i

  pub sound_after : (st : TwoWayState) (e : TwoWayEvent) → Sound u st → IsTwoWayEnabled u st e → Sound u (two_way_after u st e)
  sound_after st (Onward event.Start) sound may = record {
    count = sound.count;
    tables = start_tables st.phase st.tables st.in_force may.k may.settled may.more sound.tables;
    packets = each_both (λ p. IsUnderWay p → st.settles ≤ p.born) (IsSound u st.phase st.settles) (IsSound u (Running (suc (settled_count st.phase))) st.settles)
        (start_packet st.phase st.settles may.k may.settled) st.packets may.none_older sound.packets;
  }
  sound_after st (Onward (event.Change i)) sound may = record {
    count = changed_count (λ c. tables_after_change c st.tables) st.tables (λ c. length-set st.tables (switch_of c).0 _) (round_after (settled_count st.phase) u.rounds) i ∙ sound.count;
    tables = change_tables st.phase st.tables st.in_force may.k i may.change may.running may.is may.not_in_force may.applies sound.tables;
    packets = sound.packets;
  }
  sound_after st (Onward event.Settle) sound may = record {
    count = sound.count;
    tables = settle_tables st.phase st.tables st.in_force may.k may.running may.all_in_force sound.tables;
    packets = each_weaker (IsSound u st.phase st.settles) (IsSound u (phase_after_settle st.phase) (suc st.settles))
        (settle_packet st.phase st.settles may.k may.running st.tables st.in_force sound.tables) st.packets sound.packets;
  }
  sound_after st (Onward (event.Enter place dst)) sound may = record {
    count = sound.count;
    tables = sound.tables;
    packets = each_append (IsSound u st.phase st.settles) st.packets (entered_packet place dst st.settles ∷ []) sound.packets
        (entered_sound st.phase st.settles st.tables st.in_force sound.tables place dst may.0 may.1, tt);
  }
  sound_after st (Onward (event.Hop i)) sound may = record {
    count = sound.count;
    tables = sound.tables;
    packets = each_with_packet (IsSound u st.phase st.settles) (λ p. hopped_packet p (outcome_in u.net st.tables p.at p.dst)) st.packets i may.0 may.1
        (hopped_sound st.tables st.in_force st.settles may.0 may.2 st.phase sound.tables) sound.packets;
  }
  sound_after st (Onward (event.Lose i)) sound may = record {
    count = sound.count;
    tables = sound.tables;
    packets = each_with_packet (IsSound u st.phase st.settles) lost_packet st.packets i may.0 may.1 (lost_sound st.phase st.settles may.0) sound.packets;
  }
  sound_after st (Undo i) sound may = record {
    count = changed_count (λ c. tables_undone u (settled_count st.phase) c st.tables) st.tables (λ c. length-set st.tables (switch_of c).0 _) (round_after (settled_count st.phase) u.rounds) i ∙ sound.count;
    tables = undo_tables st.phase st.tables st.in_force may.k i may.change may.running may.is may.is_in_force sound.count sound.tables;
    packets = sound.packets;
  }
  sound_after st Back sound may = record {
    count = sound.count;
    tables = back_tables st.phase st.tables st.in_force may.k may.settled sound.tables;
    packets = each_both (λ p. IsUnderWay p → st.settles ≤ p.born) (IsSound u st.phase st.settles) (IsSound u (turned_back st.phase) st.settles)
        (back_packet st.phase st.settles may.k may.settled) st.packets may.none_older sound.packets;
  }
  sound_after st SettleBack sound may = record {
    count = sound.count;
    tables = settle_back_tables st.phase st.tables st.in_force may.k may.running may.none_in_force sound.tables;
    packets = each_weaker (IsSound u st.phase st.settles) (IsSound u (Settled (settled_count st.phase)) (suc st.settles))
        (settle_back_packet st.phase st.settles may.k may.running) st.packets sound.packets;
  }

  sound_run : (st : TwoWayState) (events : List TwoWayEvent) → Sound u st → AreTwoWayEnabled u st events → Sound u (two_way_state u st events)
  sound_run st [] sound enabled = sound
  sound_run st (e ∷ events) sound enabled = sound_run (two_way_after u st e) events (sound_after st e sound enabled.0) enabled.1

  first_sound : Sound u (first_two_way u.old)
  first_sound = record { count = refl; tables = (omega arith, λ s. subst (λ t. IsSameSet (rules_at u.old s) (rules_at t s)) (sym (settled_start u.rounds u.old)) (λ r. (λ j. j, λ j. j))); packets = tt }

  pub sound_both_ways : (events : List TwoWayEvent) → IsTwoWayRun u events → Sound u (state_after_two_way u events)
  sound_both_ways events run = sound_run (first_two_way u.old) events first_sound run

  tables_mixed : (phase : Phase) (tables : List (List Rule)) (in_force : List Bool) → TablesAre u phase tables in_force → TablesAreMixtures u phase (rules_at tables)
  tables_mixed (Settled k) tables in_force are = are
  tables_mixed (Running zero) tables in_force are = are
  tables_mixed (Running (suc k)) tables in_force are = ((let h = are.0 in omega arith), held_running k tables in_force are)

  pub mixtures_both_ways : (events : List TwoWayEvent) → IsTwoWayRun u events → TablesAreMixtures u (state_after_two_way u events).phase (rules_at (state_after_two_way u events).tables)
  mixtures_both_ways events run =
      let st = state_after_two_way u events in
      tables_mixed st.phase st.tables st.in_force (sound_both_ways events run).tables

  pub walked_both_ways : (events : List TwoWayEvent) → IsTwoWayRun u events → AllByRecursion (WalkedSomeRound u) (state_after_two_way u events).packets
  walked_both_ways events run =
      let st = state_after_two_way u events in
      each_weaker (IsSound u st.phase st.settles) (WalkedSomeRound u) (λ p s. s.walked) st.packets (sound_both_ways events run).packets
