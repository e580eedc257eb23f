-- In every run with waits each switch has a mixture of the round that ran last, and each packet under way has a timed walk of the span of that round.
use Rattle.std.proofs.Common.{◌≡◌, ◌⊎◌, ℕ, zero, suc, ◌^◌, ◌<◌, ◌≤◌, Bool, List, [], ◌∷◌, ◌++◌, length, refl, sym, ◌∙◌, subst, ap, inl, inr, arith}
use Rattle.std.specs.List.{AllByRecursion}
use Rattle.std.proofs.lemmas.Bool.{cases_lt}
use Rattle.net_base.specs.Members.{IsSameSet}
use Rattle.net_base.specs.Walks.{end_of}
use Rattle.net_base.specs.Places.{stop_of}
use Rattle.net_base.proofs.WalkLaws.{IsWalk-push, end_of-push}
use Rattle.net_base.proofs.MemberLaws.{IsSubsequence_refl, each_weaker, each_both, each_append, map-push}
use Rattle.net_base.specs.declared.ids.SwitchId.{SwitchId}
use Rattle.net_base.specs.declared.ids.Place.{Place}
use Rattle.topology.specs.Networks.{IsEntry}
use Rattle.flow_rules.specs.Tables.{rules_at}
use Rattle.flow_rules.specs.declared.rules.Rule.{Rule}
use Rattle.path_walk.specs.Paths.{outcome_in}
use Rattle.path_walk.specs.declared.Ended.TheVariants.{UnderWay, Lost}
use Rattle.path_walk.specs.declared.Outcome.{Outcome}
use Rattle.path_walk.specs.declared.Outcome.TheVariants.{Discard, Leave, Go}
use Rattle.update_model.specs.Changes.{changes_at, round_after}
use Rattle.update_model.specs.Mixtures.{Rollout, tables_before, MayHold, IsPossible, MayGo, AreGoodRounds}
use Rattle.update_model.specs.OneRound.{EndWasPossible}
use Rattle.update_model.specs.States.{IsUnderWay, entered_packet, hopped_packet, lost_packet, phase_after_settle, settled_count}
use Rattle.update_model.specs.declared.Event.TheVariants as event
use Rattle.update_model.specs.declared.Packet.{Packet}
use Rattle.update_model.specs.declared.Phase.{Phase}
use Rattle.update_model.specs.declared.Phase.TheVariants.{Settled, Running}
use Rattle.update_model.proofs.MadeLaws.{made_of, made_some, at_some}
use Rattle.update_model.proofs.OneRoundLaws.{next_tables, each_with_packet}
use Rattle.law_two_way_runs.specs.States.{TwoWayEvent, TwoWayState, Onward, Undo, Back, SettleBack, two_way_after, turned_back}
use Rattle.law_two_way_runs.specs.Laws.{WalkedRound}
use Rattle.law_two_way_runs.proofs.Turning as two_way
use Rattle.law_two_way_runs.proofs.Turning.{IsBeside, TablesAre, sound_after, sound_both_ways}
use Rattle.law_spans.specs.Spans.{IsWait, Span, HasRound, IsSpan}
use Rattle.law_spans.specs.TimedWalks.{TimedPlace, IsTimedStep, WalkedInSpan}
use Rattle.law_spans.specs.Runs.{WaitState, first_with_waits, IsStartFree, IsEnabledWithWaits, ran_in, after_with_waits, AreEnabledWithWaits, state_with_waits, IsRunWithWaits, state_after_with_waits, last_round}
use Rattle.law_spans.specs.Laws.{WalkedUpTo, WalkedSomeSpan}
use Rattle.law_spans.proofs.SpanLaws.{span_of, begins_no_later}
use Rattle.law_spans.proofs.WalkLaws.{in_round, ends_within, Rested, rested, wider_walked, walked_up_to}
use Rattle.law_spans.proofs.Single.{walked_timed}

-- the round that ran last is the running one, or the last settled one, or the next one, which was undone
abbrev pub RanIn : Rollout → Phase → ℕ → Type 0
RanIn u (Settled j) ran = ((ran ≡ j) ⊎ (ran ≡ suc j)) × (ran ≤ length u.rounds)
RanIn u (Running k) ran = (ran ≡ k) × (ran ≤ length u.rounds)

-- there is round k, or no round and k is the first
abbrev pub IsRound : Rollout → ℕ → Type 0
IsRound u k = (k < length u.rounds) ⊎ ((length u.rounds ≡ 0) × (k ≡ 0))

-- a packet has a timed walk of rounds that end with round k, none of which but the first is a wait
pub record WalkedUnbroken (u : Rollout) (waits : List ℕ) (k : ℕ) (p : Packet) : Type 0 where
  pub first : ℕ
  pub unbroken : (r : ℕ) → first < r → r ≤ k → ¬ IsWait waits r
  pub walked : WalkedInSpan u (record { first = first; last = k }) p

-- a packet under way has such a walk up to the round that ran last; between rounds, where it entered behind the last one, it met the present tables alone
abbrev pub InTime : Rollout → List ℕ → Phase → ℕ → ℕ → Packet → Type 0
InTime u waits (Settled j) settles ran p = IsUnderWay p → WalkedUnbroken u waits (last_round ran) p × (settles ≤ p.born → (k : ℕ) → IsBeside j k → WalkedRound u k p)
InTime u waits (Running k) settles ran p = IsUnderWay p → WalkedUnbroken u waits (last_round ran) p

-- a packet that entered as packets do, is in time, and has such a walk
pub record IsSound (u : Rollout) (waits : List ℕ) (phase : Phase) (settles ran : ℕ) (p : Packet) : Type 0 where
  pub walked : (k : ℕ) × IsRound u k × WalkedUnbroken u waits k p
  pub entry : IsEntry u.net p.entry
  pub dst : p.dst < 2 ^ 32
  pub born : p.born ≤ settles
  pub in_time : InTime u waits phase settles ran p

-- a state without its packets
abbrev pub bare : TwoWayState → TwoWayState
bare st = record st { packets = [] }

-- what holds of every state
pub record Sound (u : Rollout) (waits : List ℕ) (st : WaitState) : Type 0 where
  pub tables : two_way.Sound u (bare st.state)
  pub ran : RanIn u st.state.phase st.ran
  pub packets : AllByRecursion (IsSound u waits st.state.phase st.state.settles st.ran) st.state.packets

beside_ran : (j ran : ℕ) → (ran ≡ j) ⊎ (ran ≡ suc j) → IsBeside j (last_round ran)
beside_ran zero zero h = inl refl
beside_ran zero (suc k) (inl e) = absurd (omega arith)
beside_ran zero (suc k) (inr e) = inl (omega arith)
beside_ran (suc j) zero (inl e) = absurd (omega arith)
beside_ran (suc j) zero (inr e) = absurd (omega arith)
beside_ran (suc j) (suc k) (inl e) = inr e
beside_ran (suc j) (suc k) (inr e) = inl (omega arith)

module _ (u : Rollout) (good : AreGoodRounds u) (waits : List ℕ) where
  is_round : (ran : ℕ) → ran ≤ length u.rounds → IsRound u (last_round ran)
  is_round zero le = elim (cases_lt 0 (length u.rounds)) [ inl more ↦ inl more | inr ge ↦ inr (omega arith, refl) ]
  is_round (suc k) le = inl (omega arith)

  ran_within : (phase : Phase) (ran : ℕ) → RanIn u phase ran → ran ≤ length u.rounds
  ran_within (Settled j) ran h = h.1
  ran_within (Running k) ran h = h.1

  -- a switch has a mixture of the round that runs, and between rounds one of either round beside
  held_running : (k : ℕ) (tables : List (List Rule)) (in_force : List Bool) → TablesAre u (Running (suc k)) tables in_force → (s : SwitchId) → MayHold u k s (rules_at tables s)
  held_running k tables in_force are s = record {
    made = changes_at s (made_of _ (round_after k u.rounds));
    some = at_some s (made_of _ (round_after k u.rounds)) (round_after k u.rounds) (made_some _ (round_after k u.rounds));
    same = are.2 s;
  }

  held_beside : (j : ℕ) (tables : List (List Rule)) (in_force : List Bool) → TablesAre u (Settled j) tables in_force → (k : ℕ) → IsBeside j k → (s : SwitchId) → MayHold u k s (rules_at tables s)
  held_beside j tables in_force are k (inl e) s =
      record { made = []; some = tt; same = subst (λ n. IsSameSet (rules_at tables s) (rules_at (tables_before u n) s)) (sym e) (are.1 s) }
  held_beside j tables in_force are k (inr e) s =
      let less : k < length u.rounds = (let h = are.0 in omega arith) in
      record {
        made = changes_at s (round_after k u.rounds);
        some = IsSubsequence_refl (changes_at s (round_after k u.rounds));
        same = subst (λ t. IsSameSet (rules_at tables s) t) (ap (λ n. rules_at (tables_before u n) s) (sym e) ∙ next_tables u k less (good k less) s) (are.1 s);
      }

  held_last : (phase : Phase) (tables : List (List Rule)) (in_force : List Bool) (ran : ℕ) → TablesAre u phase tables in_force → RanIn u phase ran → (s : SwitchId)
      → MayHold u (last_round ran) s (rules_at tables s)
  held_last (Settled j) tables in_force ran are h s = held_beside j tables in_force are (last_round ran) (beside_ran j ran h.0) s
  held_last (Running zero) tables in_force ran are h s = absurd are
  held_last (Running (suc k)) tables in_force ran are h s = subst (λ n. MayHold u (last_round n) s (rules_at tables s)) (sym h.0) (held_running k tables in_force are s)

  -- rounds up to k are rounds up to the next one, where that is no wait
  walked_later : (p : Packet) (k : ℕ) → ¬ IsWait waits (suc k) → WalkedUnbroken u waits k p → WalkedUnbroken u waits (suc k) p
  walked_later p k none w = record {
    first = w.first;
    unbroken = λ r above below. elim (cases_lt k r) [
      | inl behind ↦ subst (λ n. ¬ IsWait waits n) (let e : suc k ≡ r = omega arith in e) none
      | inr before ↦ w.unbroken r above before
    ];
    walked = wider_walked u (record { first = w.first; last = k }) (record { first = w.first; last = suc k }) (omega arith, omega arith) p w.walked;
  }

  -- a packet that walked through the mixtures of one round alone
  walked_one : (p : Packet) (k : ℕ) → WalkedRound u k p → WalkedUnbroken u waits k p
  walked_one p k w = record { first = k; unbroken = λ r above below. absurd (omega arith); walked = walked_timed u k p w }

  -- a packet that hops by an outcome that is possible in the last round
  hopped_walked : (p : Packet) (k : ℕ) (found : Outcome) → IsUnderWay p → WalkedUnbroken u waits k p → IsPossible u k p.dst p.at found → WalkedUnbroken u waits k (hopped_packet p found)
  hopped_walked p k found under w possible =
      let span : Span = record { first = w.first; last = k } in
      let walk = w.walked.walk in
      let r = rested u span p.dst w.walked.start w.walked.rest k (omega arith) walk.within.1 walk.walk (ends_within u span p.dst w.walked.start w.walked.rest walk.within.1 walk.walk) in
      record { first = w.first; unbroken = w.unbroken; walked = on r found possible }
    where
      on : Rested u (record { first = w.first; last = k }) p.dst w.walked.start w.walked.rest k → (found : Outcome) → IsPossible u k p.dst p.at found
          → WalkedInSpan u (record { first = w.first; last = k }) (hopped_packet p found)
      on r (Go next) possible = record {
        start = r.from;
        rest = r.more ++ in_round k next ∷ [];
        walk = record {
          begins = r.same ∙ w.walked.walk.begins;
          within = (let h = w.walked.walk.within.0 in let g = r.later in omega arith, r.within);
          walk = IsWalk-push (IsTimedStep u (record { first = w.first; last = k }) p.dst) r.from r.more (in_round k next) r.walk
              (subst (λ x. IsTimedStep u (record { first = w.first; last = k }) p.dst x (in_round k next)) (sym r.end_is)
              (record { goes = subst (λ x. MayGo u k p.dst x next) (sym w.walked.at_is) possible; later = omega arith; within = omega arith }));
        };
        at_is = ap (λ (q : TimedPlace). q.place) (end_of-push r.from r.more (in_round k next));
        visits_are = ap (λ v. v ++ stop_of next ∷ []) (w.walked.visits_are ∙ sym r.stops) ∙ sym (map-push (λ (q : TimedPlace). stop_of q.place) (r.from ∷ r.more) (in_round k next));
        ended = subst (λ e. EndWasPossible u (record (hopped_packet p (Go next)) { born = (end_of r.from (r.more ++ in_round k next ∷ [])).round }) e) (sym under) tt;
      }
      on r Discard possible = record {
        start = r.from;
        rest = r.more;
        walk = record { begins = r.same ∙ w.walked.walk.begins; within = (let h = w.walked.walk.within.0 in let g = r.later in omega arith, r.within); walk = r.walk };
        at_is = ap (λ (q : TimedPlace). q.place) r.end_is ∙ w.walked.at_is;
        visits_are = w.walked.visits_are ∙ sym r.stops;
        ended = (refl, subst (λ n. IsPossible u n p.dst p.at Discard) (sym (ap (λ (q : TimedPlace). q.round) r.end_is)) possible);
      }
      on r (Leave port vlan) possible = record {
        start = r.from;
        rest = r.more;
        walk = record { begins = r.same ∙ w.walked.walk.begins; within = (let h = w.walked.walk.within.0 in let g = r.later in omega arith, r.within); walk = r.walk };
        at_is = ap (λ (q : TimedPlace). q.place) r.end_is ∙ w.walked.at_is;
        visits_are = w.walked.visits_are ∙ sym r.stops;
        ended = (refl, subst (λ n. IsPossible u n p.dst p.at (Leave port vlan)) (sym (ap (λ (q : TimedPlace). q.round) r.end_is)) possible);
      }

  -- and so of mixed walks
  hopped_round : (p : Packet) (k : ℕ) (found : Outcome) → IsUnderWay p → WalkedRound u k p → IsPossible u k p.dst p.at found → WalkedRound u k (hopped_packet p found)
  hopped_round p k (Go next) under w possible = record {
    rest = w.rest ++ next ∷ [];
    walk = IsWalk-push (MayGo u k p.dst) p.entry w.rest next w.walk (subst (λ x. MayGo u k p.dst x next) (sym w.at_is) possible);
    at_is = end_of-push p.entry w.rest next;
    visits_are = ap (λ v. v ++ stop_of next ∷ []) w.visits_are ∙ sym (map-push stop_of (p.entry ∷ w.rest) next);
    ended = subst (λ e. EndWasPossible u (record (hopped_packet p (Go next)) { born = k }) e) (sym under) tt;
  }
  hopped_round p k Discard under w possible = record { rest = w.rest; walk = w.walk; at_is = w.at_is; visits_are = w.visits_are; ended = (refl, possible) }
  hopped_round p k (Leave port vlan) under w possible = record { rest = w.rest; walk = w.walk; at_is = w.at_is; visits_are = w.visits_are; ended = (refl, possible) }

  -- what a hop leaves as it is
  hopped_entry : (p : Packet) (found : Outcome) → IsEntry u.net p.entry → IsEntry u.net (hopped_packet p found).entry
  hopped_entry p (Go next) h = h
  hopped_entry p Discard h = h
  hopped_entry p (Leave port vlan) h = h

  hopped_dst : (p : Packet) (found : Outcome) → p.dst < 2 ^ 32 → (hopped_packet p found).dst < 2 ^ 32
  hopped_dst p (Go next) h = h
  hopped_dst p Discard h = h
  hopped_dst p (Leave port vlan) h = h

  hopped_born : (p : Packet) (found : Outcome) → (hopped_packet p found).born ≡ p.born
  hopped_born p (Go next) = refl
  hopped_born p Discard = refl
  hopped_born p (Leave port vlan) = refl

  module _ (tables : List (List Rule)) (in_force : List Bool) (settles ran : ℕ) (p : Packet) (under : IsUnderWay p) where
    possible_now : (k : ℕ) → MayHold u k p.at.switch (rules_at tables p.at.switch) → IsPossible u k p.dst p.at (outcome_in u.net tables p.at p.dst)
    possible_now k held = record { mixed = rules_at tables p.at.switch; held = held; is = refl }

    hopped_on : (phase : Phase) → TablesAre u phase tables in_force → RanIn u phase ran → WalkedUnbroken u waits (last_round ran) p
        → WalkedUnbroken u waits (last_round ran) (hopped_packet p (outcome_in u.net tables p.at p.dst))
    hopped_on phase are h w =
        hopped_walked p (last_round ran) (outcome_in u.net tables p.at p.dst) under w (possible_now (last_round ran) (held_last phase tables in_force ran are h p.at.switch))

    hopped_all : (phase : Phase) → RanIn u phase ran → IsSound u waits phase settles ran p → WalkedUnbroken u waits (last_round ran) (hopped_packet p (outcome_in u.net tables p.at p.dst))
        → InTime u waits phase settles ran (hopped_packet p (outcome_in u.net tables p.at p.dst)) → IsSound u waits phase settles ran (hopped_packet p (outcome_in u.net tables p.at p.dst))
    hopped_all phase h sound w time = record {
      walked = (last_round ran, is_round ran (ran_within phase ran h), w);
      entry = hopped_entry p (outcome_in u.net tables p.at p.dst) sound.entry;
      dst = hopped_dst p (outcome_in u.net tables p.at p.dst) sound.dst;
      born = subst (λ b. b ≤ settles) (sym (hopped_born p (outcome_in u.net tables p.at p.dst))) sound.born;
      in_time = time;
    }

    hopped_sound : (phase : Phase) → TablesAre u phase tables in_force → RanIn u phase ran → IsSound u waits phase settles ran p
        → IsSound u waits phase settles ran (hopped_packet p (outcome_in u.net tables p.at p.dst))
    hopped_sound (Settled j) are h sound =
        let (w, fresh) = sound.in_time under in
        let on = hopped_on (Settled j) are h w in
        hopped_all (Settled j) h sound on (λ _. (
          on,
          λ now k beside.
              hopped_round p k (outcome_in u.net tables p.at p.dst) under (fresh (subst (λ b. settles ≤ b) (hopped_born p (outcome_in u.net tables p.at p.dst)) now) k beside)
              (possible_now k (held_beside j tables in_force are k beside p.at.switch)),
        ))
    hopped_sound (Running k) are h sound =
        let on = hopped_on (Running k) are h (sound.in_time under) in
        hopped_all (Running k) h sound on (λ _. on)

  -- a packet that is lost isn't under way
  not_under_way : (phase : Phase) (settles ran : ℕ) (p : Packet) → ¬ IsUnderWay p → InTime u waits phase settles ran p
  not_under_way (Settled j) settles ran p ended = λ under. absurd (ended under)
  not_under_way (Running k) settles ran p ended = λ under. absurd (ended under)

  lost_sound : (phase : Phase) (settles ran : ℕ) (p : Packet) → IsSound u waits phase settles ran p → IsSound u waits phase settles ran (lost_packet p)
  lost_sound phase settles ran p sound =
      let (k, is, w) = sound.walked in
      record {
        walked = (
          k,
          is,
          record {
            first = w.first;
            unbroken = w.unbroken;
            walked = record { start = w.walked.start; rest = w.walked.rest; walk = w.walked.walk; at_is = w.walked.at_is; visits_are = w.walked.visits_are; ended = tt };
          },
        );
        entry = sound.entry;
        dst = sound.dst;
        born = sound.born;
        in_time = not_under_way phase settles ran (lost_packet p) (λ under. let e : Lost ≡ UnderWay = under in cc);
      }

  -- a packet that enters
  entered_walked : (k settles : ℕ) (place : Place) (dst : ℕ) → WalkedUnbroken u waits k (entered_packet place dst settles)
  entered_walked k settles place dst = record {
    first = k;
    unbroken = λ r above below. absurd (omega arith);
    walked = record { start = in_round k place; rest = []; walk = record { begins = refl; within = (omega arith, omega arith); walk = tt }; at_is = refl; visits_are = refl; ended = tt };
  }

  entered_in_time : (phase : Phase) (settles ran : ℕ) (place : Place) (dst : ℕ) → InTime u waits phase settles ran (entered_packet place dst settles)
  entered_in_time (Settled j) settles ran place dst = λ _. (
    entered_walked (last_round ran) settles place dst,
    λ now k beside. record { rest = []; walk = tt; at_is = refl; visits_are = refl; ended = tt },
  )
  entered_in_time (Running k) settles ran place dst = λ _. entered_walked (last_round ran) settles place dst

  -- the same packet in another phase
  in_phase : (phase next : Phase) (settles later ran now : ℕ) (p : Packet) → settles ≤ later → InTime u waits next later now p → IsSound u waits phase settles ran p → IsSound u waits next later now p
  in_phase phase next settles later ran now p le time sound =
      record { walked = sound.walked; entry = sound.entry; dst = sound.dst; born = (let h = sound.born in omega arith); in_time = time }

  -- where the next round begins freely its span goes on, or it runs once more
  walked_on : (p : Packet) (j ran : ℕ) → (ran ≡ j) ⊎ (ran ≡ suc j) → IsStartFree waits ran j → WalkedUnbroken u waits (last_round ran) p → WalkedUnbroken u waits j p
  walked_on p zero ran (inl e) free w = subst (λ n. WalkedUnbroken u waits (last_round n) p) e w
  walked_on p (suc j) ran (inl e) (inl none) w = walked_later p j none (subst (λ n. WalkedUnbroken u waits (last_round n) p) e w)
  walked_on p (suc j) ran (inl e) (inr again) w = absurd (omega arith)
  walked_on p zero ran (inr e) free w = subst (λ n. WalkedUnbroken u waits (last_round n) p) e w
  walked_on p (suc j) ran (inr e) free w = subst (λ n. WalkedUnbroken u waits (last_round n) p) e w

  start_free : (phase : Phase) (settles ran k : ℕ) → phase ≡ Settled k → RanIn u phase ran → IsStartFree waits ran k → (p : Packet) → IsSound u waits phase settles ran p
      → IsSound u waits (Running (suc (settled_count phase))) settles (suc (settled_count phase)) p
  start_free (Settled j) settles ran k is h free p sound =
      let same : k ≡ j = cc in
      in_phase (Settled j) (Running (suc j)) settles settles ran (suc j) p (omega arith)
      (λ under. walked_on p j ran h.0 (subst (λ n. IsStartFree waits ran n) same free) (sound.in_time under).0) sound
  start_free (Running j) settles ran k is h free p sound = absurd (let e : Running j ≡ Settled k = is in cc)

  start_waited : (phase : Phase) (settles ran k : ℕ) → phase ≡ Settled k → (p : Packet) → (IsUnderWay p → settles ≤ p.born) → IsSound u waits phase settles ran p
      → IsSound u waits (Running (suc (settled_count phase))) settles (suc (settled_count phase)) p
  start_waited (Settled j) settles ran k is p late sound =
      in_phase (Settled j) (Running (suc j)) settles settles ran (suc j) p (omega arith)
      (λ under. walked_one p j ((sound.in_time under).1 (late under) j (inl refl))) sound
  start_waited (Running j) settles ran k is p late sound = absurd (let e : Running j ≡ Settled k = is in cc)

  back_free : (phase : Phase) (settles ran k : ℕ) → phase ≡ Settled (suc k) → ran ≡ suc k → (p : Packet) → IsSound u waits phase settles ran p
      → IsSound u waits (turned_back phase) settles (ran_in (turned_back phase) ran) p
  back_free (Settled j) settles ran k is again p sound =
      let same : j ≡ suc k = cc in
      in_phase (Settled j) (Running j) settles settles ran j p (omega arith)
      (λ under. subst (λ n. WalkedUnbroken u waits (last_round n) p) (again ∙ sym same) (sound.in_time under).0) sound
  back_free (Running j) settles ran k is again p sound = absurd (let e : Running j ≡ Settled (suc k) = is in cc)

  back_waited : (phase : Phase) (settles ran k : ℕ) → phase ≡ Settled (suc k) → (p : Packet) → (IsUnderWay p → settles ≤ p.born) → IsSound u waits phase settles ran p
      → IsSound u waits (turned_back phase) settles (ran_in (turned_back phase) ran) p
  back_waited (Settled zero) settles ran k is p late sound = absurd (let e : Settled zero ≡ Settled (suc k) = is in cc)
  back_waited (Settled (suc j)) settles ran k is p late sound =
      in_phase (Settled (suc j)) (Running (suc j)) settles settles ran (suc j) p (omega arith)
      (λ under. walked_one p j ((sound.in_time under).1 (late under) j (inr refl))) sound
  back_waited (Running j) settles ran k is p late sound = absurd (let e : Running j ≡ Settled (suc k) = is in cc)

  back_ran : (phase : Phase) (ran k : ℕ) → phase ≡ Settled (suc k) → suc k ≤ length u.rounds → RanIn u (turned_back phase) (ran_in (turned_back phase) ran)
  back_ran (Settled j) ran k is le = (refl, (let same : j ≡ suc k = cc in omega arith))
  back_ran (Running j) ran k is le = absurd (let e : Running j ≡ Settled (suc k) = is in cc)

  settled_within : (phase : Phase) (k : ℕ) (tables : List (List Rule)) (in_force : List Bool) → phase ≡ Settled k → TablesAre u phase tables in_force → k ≤ length u.rounds
  settled_within (Settled j) k tables in_force is are = let same : j ≡ k = cc in let h = are.0 in omega arith
  settled_within (Running j) k tables in_force is are = absurd (let e : Running j ≡ Settled k = is in cc)

  -- a round is settled, in either way
  settle_ran : (phase : Phase) (ran : ℕ) → RanIn u phase ran → RanIn u (phase_after_settle phase) ran
  settle_ran (Settled j) ran h = h
  settle_ran (Running k) ran h = (inl h.0, h.1)

  settle_back_ran : (phase : Phase) (ran : ℕ) → RanIn u phase ran → RanIn u (Settled (settled_count phase)) ran
  settle_back_ran (Settled j) ran h = h
  settle_back_ran (Running zero) ran h = (inl h.0, h.1)
  settle_back_ran (Running (suc k)) ran h = (inr h.0, h.1)

  settle_time : (phase : Phase) (settles ran k j : ℕ) → phase ≡ Running k → (p : Packet) → IsSound u waits phase settles ran p → InTime u waits (Settled j) (suc settles) ran p
  settle_time (Settled i) settles ran k j is p sound = absurd (let e : Settled i ≡ Running k = is in cc)
  settle_time (Running i) settles ran k j is p sound = λ under. (sound.in_time under, λ now. absurd (let h = sound.born in omega arith))

  settle_packet : (phase : Phase) (settles ran k : ℕ) → phase ≡ Running k → (p : Packet) → IsSound u waits phase settles ran p → IsSound u waits (phase_after_settle phase) (suc settles) ran p
  settle_packet (Settled j) settles ran k is p sound = absurd (let e : Settled j ≡ Running k = is in cc)
  settle_packet (Running j) settles ran k is p sound =
      in_phase (Running j) (Settled j) settles (suc settles) ran ran p (omega arith) (settle_time (Running j) settles ran k j is p sound) sound

  settle_back_packet : (phase : Phase) (settles ran k : ℕ) → phase ≡ Running (suc k) → (p : Packet) → IsSound u waits phase settles ran p → IsSound u waits (Settled (settled_count phase)) (suc settles) ran p
  settle_back_packet phase settles ran k is p sound =
      in_phase phase (Settled (settled_count phase)) settles (suc settles) ran ran p (omega arith) (settle_time phase settles ran (suc k) (settled_count phase) is p sound) sound

  -- where no round begins, the same one ran last
  ran_still : (phase : Phase) (ran : ℕ) → RanIn u phase ran → ran ≡ ran_in phase ran
  ran_still (Settled j) ran h = refl
  ran_still (Running k) ran h = h.0

  still : (st : TwoWayState) (ran : ℕ) → Sound u waits (record { state = st; ran = ran }) → Sound u waits (record { state = st; ran = ran_in st.phase ran })
  still st ran sound = subst (λ n. Sound u waits (record { state = st; ran = n })) (ran_still st.phase ran sound.ran) sound

  sound_next : (st : WaitState) (e : TwoWayEvent) → Sound u waits st → IsEnabledWithWaits u waits st e → Sound u waits (after_with_waits u st e)
  sound_next st (Onward event.Start) sound may =
      let s = st.state in
      let count : settled_count s.phase ≡ may.k = ap settled_count may.settled in
      let more = may.more in
      record {
        tables = sound_after u good (bare s) (Onward event.Start) sound.tables (record { k = may.k; settled = may.settled; more = may.more; none_older = tt });
        ran = (refl, omega arith);
        packets = elim may.waited [
          | inl free ↦ each_weaker (IsSound u waits s.phase s.settles st.ran) (IsSound u waits (Running (suc (settled_count s.phase))) s.settles (suc (settled_count s.phase)))
              (start_free s.phase s.settles st.ran may.k may.settled sound.ran free) s.packets sound.packets
          | inr none ↦ each_both (λ p. IsUnderWay p → s.settles ≤ p.born) (IsSound u waits s.phase s.settles st.ran)
              (IsSound u waits (Running (suc (settled_count s.phase))) s.settles (suc (settled_count s.phase)))
              (start_waited s.phase s.settles st.ran may.k may.settled) s.packets none sound.packets
        ];
      }
  sound_next st (Onward (event.Change i)) sound may =
      still (two_way_after u st.state (Onward (event.Change i))) st.ran (record {
        tables = sound_after u good (bare st.state) (Onward (event.Change i)) sound.tables
            (record { k = may.k; running = may.running; change = may.change; is = may.is; not_in_force = may.not_in_force; applies = may.applies });
        ran = sound.ran;
        packets = sound.packets;
      })
  sound_next st (Onward event.Settle) sound may =
      let s = st.state in
      still (two_way_after u s (Onward event.Settle)) st.ran (record {
        tables = sound_after u good (bare s) (Onward event.Settle) sound.tables (record { k = may.k; running = may.running; all_in_force = may.all_in_force });
        ran = settle_ran s.phase st.ran sound.ran;
        packets = each_weaker (IsSound u waits s.phase s.settles st.ran) (IsSound u waits (phase_after_settle s.phase) (suc s.settles) st.ran)
            (settle_packet s.phase s.settles st.ran may.k may.running) s.packets sound.packets;
      })
  sound_next st (Onward (event.Enter place dst)) sound may =
      let s = st.state in
      still (two_way_after u s (Onward (event.Enter place dst))) st.ran (record {
        tables = sound.tables;
        ran = sound.ran;
        packets = each_append (IsSound u waits s.phase s.settles st.ran) s.packets (entered_packet place dst s.settles ∷ []) sound.packets (
          record {
            walked = (last_round st.ran, is_round st.ran (ran_within s.phase st.ran sound.ran), entered_walked (last_round st.ran) s.settles place dst);
            entry = may.0;
            dst = may.1;
            born = omega arith;
            in_time = entered_in_time s.phase s.settles st.ran place dst;
          },
          tt,
        );
      })
  sound_next st (Onward (event.Hop i)) sound may =
      let s = st.state in
      still (two_way_after u s (Onward (event.Hop i))) st.ran (record {
        tables = sound.tables;
        ran = sound.ran;
        packets = each_with_packet (IsSound u waits s.phase s.settles st.ran) (λ p. hopped_packet p (outcome_in u.net s.tables p.at p.dst)) s.packets i may.0 may.1
            (hopped_sound s.tables s.in_force s.settles st.ran may.0 may.2 s.phase sound.tables.tables sound.ran) sound.packets;
      })
  sound_next st (Onward (event.Lose i)) sound may =
      let s = st.state in
      still (two_way_after u s (Onward (event.Lose i))) st.ran (record {
        tables = sound.tables;
        ran = sound.ran;
        packets = each_with_packet (IsSound u waits s.phase s.settles st.ran) lost_packet s.packets i may.0 may.1 (lost_sound s.phase s.settles st.ran may.0) sound.packets;
      })
  sound_next st (Undo i) sound may =
      still (two_way_after u st.state (Undo i)) st.ran (record {
        tables = sound_after u good (bare st.state) (Undo i) sound.tables (record { k = may.k; running = may.running; change = may.change; is = may.is; is_in_force = may.is_in_force });
        ran = sound.ran;
        packets = sound.packets;
      })
  sound_next st Back sound may =
      let s = st.state in
      record {
        tables = sound_after u good (bare s) Back sound.tables (record { k = may.k; settled = may.settled; none_older = tt });
        ran = back_ran s.phase st.ran may.k may.settled (settled_within s.phase (suc may.k) s.tables s.in_force may.settled sound.tables.tables);
        packets = elim may.waited [
          | inl again ↦ each_weaker (IsSound u waits s.phase s.settles st.ran) (IsSound u waits (turned_back s.phase) s.settles (ran_in (turned_back s.phase) st.ran))
              (back_free s.phase s.settles st.ran may.k may.settled again) s.packets sound.packets
          | inr none ↦ each_both (λ p. IsUnderWay p → s.settles ≤ p.born) (IsSound u waits s.phase s.settles st.ran)
              (IsSound u waits (turned_back s.phase) s.settles (ran_in (turned_back s.phase) st.ran))
              (back_waited s.phase s.settles st.ran may.k may.settled) s.packets none sound.packets
        ];
      }
  sound_next st SettleBack sound may =
      let s = st.state in
      still (two_way_after u s SettleBack) st.ran (record {
        tables = sound_after u good (bare s) SettleBack sound.tables (record { k = may.k; running = may.running; none_in_force = may.none_in_force });
        ran = settle_back_ran s.phase st.ran sound.ran;
        packets = each_weaker (IsSound u waits s.phase s.settles st.ran) (IsSound u waits (Settled (settled_count s.phase)) (suc s.settles) st.ran)
            (settle_back_packet s.phase s.settles st.ran may.k may.running) s.packets sound.packets;
      })

  sound_all : (st : WaitState) (events : List TwoWayEvent) → Sound u waits st → AreEnabledWithWaits u waits st events → Sound u waits (state_with_waits u st events)
  sound_all st [] sound enabled = sound
  sound_all st (e ∷ events) sound enabled = sound_all (after_with_waits u st e) events (sound_next st e sound enabled.0) enabled.1

  pub sound_with_waits : (events : List TwoWayEvent) → IsRunWithWaits u waits events → Sound u waits (state_after_with_waits u events)
  sound_with_waits events run =
      sound_all (first_with_waits u.old) events (record { tables = sound_both_ways u good [] tt; ran = (inl refl, omega arith); packets = tt }) run

  -- the walk is one of the span
  pub walked_in_span : (p : Packet) (k : ℕ) (span : Span) → IsSpan waits (length u.rounds) span → HasRound span k → WalkedUnbroken u waits k p → WalkedUpTo u span k p
  walked_in_span p k span is has w =
      let walk = w.walked.walk in
      let sooner = begins_no_later waits (length u.rounds) span is w.first k (let g = walk.within.0 in let h = walk.within.1 in omega arith) has w.unbroken in
      walked_up_to u (record { first = w.first; last = k }) span (sooner, has.1) p w.walked

  under_way_walked : (phase : Phase) (settles ran : ℕ) (p : Packet) → InTime u waits phase settles ran p → IsUnderWay p → WalkedUnbroken u waits (last_round ran) p
  under_way_walked (Settled j) settles ran p time under = (time under).0
  under_way_walked (Running k) settles ran p time under = time under

  pub timed_walks_in_runs : (events : List TwoWayEvent) → IsRunWithWaits u waits events → (span : Span) → IsSpan waits (length u.rounds) span → HasRound span (last_round (state_after_with_waits u events).ran)
      → AllByRecursion (λ p. IsUnderWay p → WalkedUpTo u span (last_round (state_after_with_waits u events).ran) p) (state_after_with_waits u events).state.packets
  timed_walks_in_runs events run span is has =
      let st = state_after_with_waits u events in
      each_weaker (IsSound u waits st.state.phase st.state.settles st.ran) (λ p. IsUnderWay p → WalkedUpTo u span (last_round st.ran) p)
      (λ p sound under. walked_in_span p (last_round st.ran) span is has (under_way_walked st.state.phase st.state.settles st.ran p sound.in_time under))
      st.state.packets (sound_with_waits events run).packets

  pub some_span_in_runs : (events : List TwoWayEvent) → 0 < length u.rounds → IsRunWithWaits u waits events → AllByRecursion (WalkedSomeSpan u waits) (state_after_with_waits u events).state.packets
  some_span_in_runs events some run =
      let st = state_after_with_waits u events in
      each_weaker (IsSound u waits st.state.phase st.state.settles st.ran) (WalkedSomeSpan u waits)
      (λ p sound.
      (let (k, round, w) = sound.walked in
      let less : k < length u.rounds = elim round [ inl less ↦ less | inr none ↦ absurd (let e = none.0 in omega arith) ] in
      let (span, is, has) = span_of waits (length u.rounds) k less in
      (span, is, (walked_in_span p k span is has w).0)))
      st.state.packets (sound_with_waits events run).packets

  pub tables_in_runs : (events : List TwoWayEvent) → IsRunWithWaits u waits events
      → (s : SwitchId) → MayHold u (last_round (state_after_with_waits u events).ran) s (rules_at (state_after_with_waits u events).state.tables s)
  tables_in_runs events run s =
      let st = state_after_with_waits u events in
      let sound = sound_with_waits events run in
      held_last st.state.phase st.state.tables st.state.in_force st.ran sound.tables.tables sound.ran s
