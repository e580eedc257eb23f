-- Some changes of a round are made, or taken back, one after the other.
use Rattle.std.proofs.Common.{◌≡◌, ◌≢◌, ◌⊎◌, ℕ, suc, ◌<◌, ◌≤◌, Bool, true, false, not, List, [], ◌∷◌, ◌++◌, length, map, drop, set, refl, sym, ap, ◌∙◌, subst, inl, inr, append_assoc, append-nil, arith}
use Rattle.std.specs.Prelude.{slice_get, Some}
use Rattle.std.proofs.lemmas.Bool.{cases_Bool, cases_eq}
use Rattle.std.proofs.lemmas.List.Elements.{filter_map-append}
use Rattle.topology.specs.Networks.{Network}
use Rattle.flow_rules.specs.declared.rules.Rule.{Rule}
use Rattle.update_model.specs.Changes.{round_after}
use Rattle.update_model.specs.Mixtures.{Rollout, AreGoodRounds}
use Rattle.update_model.specs.declared.Change.{Change}
use Rattle.update_model.specs.declared.Event.TheVariants as event
use Rattle.update_model.specs.declared.Phase.TheVariants.{Running}
use Rattle.round_messages.proofs.Places.{get_set_same, get_set_other, drop_head, drop_none}
use Rattle.schedule_pilot.proofs.PendingLaws.{pending_applies}
use Rattle.law_two_way_runs.specs.States.{TwoWayEvent, TwoWayState, Onward, Undo, first_two_way, IsTwoWayEnabled, two_way_after}
use Rattle.law_two_way_runs.specs.Runs.{AreTwoWayEnabled, two_way_state, IsTwoWayRun, state_after_two_way}
use Rattle.law_two_way_runs.proofs.Flags.{turned_get}
use Rattle.law_two_way_runs.proofs.Turning.{Sound, TablesAre, sound_both_ways}
use Rattle.two_way_driver.specs.Drivers.{log_if, change_notes, undo_notes}
use Rattle.two_way_driver.specs.Laws.{event_of, event_in, events_in}
use Rattle.two_way_driver.specs.declared.DriverEvent.{DriverEvent}
use Rattle.two_way_driver.specs.declared.DriverEvent.TheVariants as logged
use Rattle.two_way_driver.specs.declared.DriverOutput.{DriverOutput}
use Rattle.two_way_driver.specs.declared.DriverOutput.TheVariants.{Log}

module _ (net : Network) (rounds : List (List Change)) (old : List (List Rule)) (good : AreGoodRounds (record { net = net; old = old; rounds = rounds })) where
  abbrev pub u : Rollout
  u = record { net = net; old = old; rounds = rounds }

  -- the events that were said are a run that leads to a state
  pub record Reaches (said : List DriverOutput) (st : TwoWayState) : Type 0 where
    pub run : IsTwoWayRun u (events_in said)
    pub is : state_after_two_way u (events_in said) ≡ st

  pub sound_at : (said : List DriverOutput) (st : TwoWayState) → Reaches said st → Sound u st
  sound_at said st r = subst (Sound u) r.is (sound_both_ways u good (events_in said) r.run)

  enabled-append : (st : TwoWayState) (es : List TwoWayEvent) (e : TwoWayEvent) → AreTwoWayEnabled u st es → IsTwoWayEnabled u (two_way_state u st es) e → AreTwoWayEnabled u st (es ++ e ∷ [])
  enabled-append st [] e p q = (q, tt)
  enabled-append st (f ∷ es) e p q = (p.0, enabled-append (two_way_after u st f) es e p.1 q)

  state-append : (st : TwoWayState) (es : List TwoWayEvent) (e : TwoWayEvent) → two_way_state u st (es ++ e ∷ []) ≡ two_way_after u (two_way_state u st es) e
  state-append st [] e = refl
  state-append st (f ∷ es) e = state-append (two_way_after u st f) es e

  -- one event more
  pub logs : (said : List DriverOutput) (st : TwoWayState) (e : DriverEvent) → Reaches said st → IsTwoWayEnabled u st (event_of e) → Reaches (said ++ Log e ∷ []) (two_way_after u st (event_of e))
  logs said st e r may =
      let split : events_in (said ++ Log e ∷ []) ≡ events_in said ++ event_of e ∷ [] = filter_map-append event_in said (Log e ∷ []) in
      let here : IsTwoWayEnabled u (state_after_two_way u (events_in said)) (event_of e) = subst (λ x. IsTwoWayEnabled u x (event_of e)) (sym r.is) may in
      record {
        run = subst (IsTwoWayRun u) (sym split) (enabled-append (first_two_way old) (events_in said) (event_of e) r.run here);
        is = ap (state_after_two_way u) split ∙ state-append (first_two_way old) (events_in said) (event_of e) ∙ ap (λ x. two_way_after u x (event_of e)) r.is;
      }

  -- what is said besides events makes no difference
  pub says : (said words : List DriverOutput) (st : TwoWayState) → events_in words ≡ [] → Reaches said st → Reaches (said ++ words) st
  says said words st none r =
      let same : events_in (said ++ words) ≡ events_in said = filter_map-append event_in said words ∙ ap (λ l. events_in said ++ l) none ∙ append-nil (events_in said) in
      record { run = subst (IsTwoWayRun u) (sym same) r.run; is = ap (state_after_two_way u) same ∙ r.is }

  -- these changes of a round
  module _ (is_here : Change → Bool) (k : ℕ) (less : k < length rounds) where
    abbrev round : List Change
    round = round_after k rounds

    -- after those of these changes from number i on got this flag
    pub record AreSet (value : Bool) (i : ℕ) (a b : TwoWayState) : Type 0 where
      pub phase : b.phase ≡ a.phase
      pub packets : b.packets ≡ a.packets
      pub here : (n : ℕ) (c : Change) → i ≤ n → slice_get round n ≡ Some c → is_here c ≡ true → slice_get b.in_force n ≡ Some value
      pub others : (n : ℕ) (c : Change) → (n < i) ⊎ (is_here c ≡ false) → slice_get round n ≡ Some c → slice_get b.in_force n ≡ slice_get a.in_force n

    -- those from number i on have this flag
    abbrev AreStill : Bool → ℕ → TwoWayState → Type 0
    AreStill value i st = (n : ℕ) (c : Change) → i ≤ n → slice_get round n ≡ Some c → is_here c ≡ true → slice_get st.in_force n ≡ Some value

    may_change : (said : List DriverOutput) (i : ℕ) (c : Change) (st : TwoWayState) → Reaches said st → st.phase ≡ Running (suc k) → slice_get round i ≡ Some c → slice_get st.in_force i ≡ Some false
        → IsTwoWayEnabled u st (Onward (event.Change i))
    may_change said i c st r running at off =
        let sound = sound_at said st r in
        let are : TablesAre u (Running (suc k)) st.tables st.in_force = subst (λ p. TablesAre u p st.tables st.in_force) running sound.tables in
        record {
          k = k;
          running = running;
          change = c;
          is = at;
          not_in_force = off;
          applies = pending_applies u good k i st.tables (map not st.in_force) c less at (turned_get st.in_force i false off) are.2 sound.count;
        }

    none_set : (value : Bool) (i : ℕ) (st : TwoWayState) → drop i round ≡ [] → AreSet value i st st
    none_set value i st none = record {
      phase = refl;
      packets = refl;
      here = λ n d le there hit. absurd (drop_none round i n d none le there);
      others = λ n d other there. refl;
    }

    -- change i is none of them
    set_past : (value : Bool) (i : ℕ) (c : Change) (a b : TwoWayState) → slice_get round i ≡ Some c → is_here c ≡ false → AreSet value (suc i) a b → AreSet value i a b
    set_past value i c a b at away rest = record {
      phase = rest.phase;
      packets = rest.packets;
      here = λ n d le there hit. elim (cases_eq n i) [
        | inl same ↦ (
            let f : Some d ≡ Some c = sym there ∙ ap (slice_get round) same ∙ at in
            let g : d ≡ c = cc in
            let t : true ≡ false = sym hit ∙ ap is_here g ∙ away in
            absurd (cc))
        | inr more ↦ rest.here n d (omega arith) there hit
      ];
      others = λ n d other there. rest.others n d (elim other [ inl lt ↦ inl (omega arith) | inr miss ↦ inr miss ]) there;
    }

    differs : (n i : ℕ) (c d : Change) → slice_get round i ≡ Some c → is_here c ≡ true → slice_get round n ≡ Some d → (n < i) ⊎ (is_here d ≡ false) → n ≢ i
    differs n i c d at here there (inl lt) = λ e. omega arith
    differs n i c d at here there (inr miss) = λ e.
        let f : Some d ≡ Some c = sym there ∙ ap (slice_get round) e ∙ at in
        let g : d ≡ c = cc in
        let t : true ≡ false = sym here ∙ ap is_here (sym g) ∙ miss in
        absurd (cc)

    -- change i is set first, and then the others
    set_first : (value : Bool) (i : ℕ) (c : Change) (a m b : TwoWayState) → slice_get round i ≡ Some c → is_here c ≡ true → m.phase ≡ a.phase → m.packets ≡ a.packets
        → (was : Bool) → slice_get a.in_force i ≡ Some was → m.in_force ≡ set a.in_force i value → AreSet value (suc i) m b → AreSet value i a b
    set_first value i c a m b at here phase packets was flag is rest = record {
      phase = rest.phase ∙ phase;
      packets = rest.packets ∙ packets;
      here = λ n d le there hit. elim (cases_eq n i) [
        | inl same ↦ rest.others n d (inl (omega arith)) there ∙ ap (λ l. slice_get l n) is ∙ ap (slice_get (set a.in_force i value)) same ∙ get_set_same a.in_force i was value flag
        | inr more ↦ rest.here n d (omega arith) there hit
      ];
      others = λ n d other there.
          rest.others n d (elim other [ inl lt ↦ inl (omega arith) | inr miss ↦ inr miss ]) there ∙ ap (λ l. slice_get l n) is ∙ get_set_other a.in_force i n value (differs n i c d at here there other);
    }

    -- change i is set last
    set_last : (value : Bool) (i : ℕ) (c : Change) (a m b : TwoWayState) → slice_get round i ≡ Some c → is_here c ≡ true → AreSet value (suc i) a m → b.phase ≡ m.phase → b.packets ≡ m.packets
        → (was : Bool) → slice_get m.in_force i ≡ Some was → b.in_force ≡ set m.in_force i value → AreSet value i a b
    set_last value i c a m b at here rest phase packets was flag is = record {
      phase = phase ∙ rest.phase;
      packets = packets ∙ rest.packets;
      here = λ n d le there hit. elim (cases_eq n i) [
        | inl same ↦ ap (λ l. slice_get l n) is ∙ ap (slice_get (set m.in_force i value)) same ∙ get_set_same m.in_force i was value flag
        | inr more ↦ ap (λ l. slice_get l n) is ∙ get_set_other m.in_force i n value more ∙ rest.here n d (omega arith) there hit
      ];
      others = λ n d other there.
          ap (λ l. slice_get l n) is ∙ get_set_other m.in_force i n value (differs n i c d at here there other)
          ∙ rest.others n d (elim other [ inl lt ↦ inl (omega arith) | inr miss ↦ inr miss ]) there;
    }

    -- the state behind some words
    pub record Leads (value : Bool) (i : ℕ) (a : TwoWayState) (said : List DriverOutput) : Type 0 where
      pub state : TwoWayState
      pub reaches : Reaches said state
      pub set : AreSet value i a state

    pub changes_made : (changes : List Change) (i : ℕ) (said : List DriverOutput) (st : TwoWayState) → drop i round ≡ changes → Reaches said st → st.phase ≡ Running (suc k) → AreStill false i st
        → Leads true i st (said ++ change_notes is_here i changes)
    changes_made [] i said st are r running off = record { state = st; reaches = subst (λ l. Reaches l st) (sym (append-nil said)) r; set = none_set true i st are }
    changes_made (c ∷ changes) i said st are r running off =
        let (at, next) = drop_head round changes i c are in
        elim (cases_Bool (is_here c)) [
          | inl here ↦ (
              let flag = off i c (omega arith) at here in
              let may = may_change said i c st r running at flag in
              let m : TwoWayState = two_way_after u st (Onward (event.Change i)) in
              let still : AreStill false (suc i) m = λ n d le there hit. get_set_other st.in_force i n true (λ e. omega arith) ∙ off n d (omega arith) there hit in
              let rest = changes_made changes (suc i) (said ++ Log (logged.Change i) ∷ []) m next (logs said st (logged.Change i) r may) running still in
              let words : (said ++ Log (logged.Change i) ∷ []) ++ change_notes is_here (suc i) changes ≡ said ++ change_notes is_here i (c ∷ changes) =
              append_assoc said (Log (logged.Change i) ∷ []) (change_notes is_here (suc i) changes) ∙ ap (λ b. said ++ (log_if b (logged.Change i) ++ change_notes is_here (suc i) changes)) (sym here) in
              record { state = rest.state; reaches = subst (λ l. Reaches l rest.state) words rest.reaches; set = set_first true i c st m rest.state at here refl refl false flag refl rest.set })
          | inr away ↦ (
              let rest = changes_made changes (suc i) said st next r running (λ n d le there hit. off n d (omega arith) there hit) in
              let words : said ++ change_notes is_here (suc i) changes ≡ said ++ change_notes is_here i (c ∷ changes) = ap (λ b. said ++ (log_if b (logged.Change i) ++ change_notes is_here (suc i) changes)) (sym away) in
              record { state = rest.state; reaches = subst (λ l. Reaches l rest.state) words rest.reaches; set = set_past true i c st rest.state at away rest.set })
        ]

    pub changes_undone : (changes : List Change) (i : ℕ) (said : List DriverOutput) (st : TwoWayState) → drop i round ≡ changes → Reaches said st → st.phase ≡ Running (suc k) → AreStill true i st
        → Leads false i st (said ++ undo_notes is_here i changes)
    changes_undone [] i said st are r running on = record { state = st; reaches = subst (λ l. Reaches l st) (sym (append-nil said)) r; set = none_set false i st are }
    changes_undone (c ∷ changes) i said st are r running on =
        let (at, next) = drop_head round changes i c are in
        let rest = changes_undone changes (suc i) said st next r running (λ n d le there hit. on n d (omega arith) there hit) in
        let m = rest.state in
        let before = said ++ undo_notes is_here (suc i) changes in
        elim (cases_Bool (is_here c)) [
          | inl here ↦ (
              let flag : slice_get m.in_force i ≡ Some true = rest.set.others i c (inl (omega arith)) at ∙ on i c (omega arith) at here in
              let may : IsTwoWayEnabled u m (Undo i) = record { k = k; running = rest.set.phase ∙ running; change = c; is = at; is_in_force = flag } in
              let words : before ++ Log (logged.Undo i) ∷ [] ≡ said ++ undo_notes is_here i (c ∷ changes) =
              append_assoc said (undo_notes is_here (suc i) changes) (Log (logged.Undo i) ∷ []) ∙ ap (λ b. said ++ (undo_notes is_here (suc i) changes ++ log_if b (logged.Undo i))) (sym here) in
              let b : TwoWayState = two_way_after u m (Undo i) in
              record { state = b; reaches = subst (λ l. Reaches l b) words (logs before m (logged.Undo i) rest.reaches may); set = set_last false i c st m b at here rest.set refl refl true flag refl })
          | inr away ↦ (
              let words : before ≡ said ++ undo_notes is_here i (c ∷ changes) =
              ap (λ l. said ++ l) (sym (append-nil (undo_notes is_here (suc i) changes))) ∙ ap (λ b. said ++ (undo_notes is_here (suc i) changes ++ log_if b (logged.Undo i))) (sym away) in
              record { state = m; reaches = subst (λ l. Reaches l m) words rest.reaches; set = set_past false i c st m at away rest.set })
        ]
