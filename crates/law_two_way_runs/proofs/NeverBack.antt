-- A run in which nothing is turned back is a run of the update as it is carried out.
use Rattle.std.proofs.Common.{◌≡◌, ℕ, zero, suc, ◌≤◌, Bool, true, false, not, List, [], ◌∷◌, ◌++◌, length, map, refl, sym, ◌∙◌, subst, ap}
use Rattle.std.specs.Prelude.{◌↔◌}
use Rattle.net_base.proofs.MemberLaws.{each_weaker}
use Rattle.flow_rules.specs.declared.rules.Rule.{Rule}
use Rattle.path_walk.specs.declared.Ended.TheVariants.{UnderWay}
use Rattle.update_model.specs.Changes.{round_after}
use Rattle.update_model.specs.Mixtures.{Rollout}
use Rattle.update_model.specs.Runs.{AreEnabled, state_after, IsRun, state_after_run}
use Rattle.update_model.specs.States.{State, IsEnabled, entered_packet, phase_after_settle, settled_count, state_after_event}
use Rattle.update_model.specs.declared.Event.{Event}
use Rattle.update_model.specs.declared.Event.TheVariants as event
use Rattle.update_model.specs.declared.Packet.{Packet}
use Rattle.update_model.specs.declared.Phase.{Phase}
use Rattle.update_model.specs.declared.Phase.TheVariants.{Settled, Running}
use Rattle.law_two_way_runs.specs.States.{TwoWayState, Onward, first_two_way, IsTwoWayEnabled, two_way_after, tables_made}
use Rattle.law_two_way_runs.specs.Runs.{AreTwoWayEnabled, two_way_state, IsTwoWayRun, state_after_two_way}
use Rattle.law_two_way_runs.specs.Laws.{onward_events, onward_state}
use Rattle.law_two_way_runs.proofs.Flags.{turned_set, turned_get, got_turned, turned_replicate, turned_all, all_turned}

-- no round 0 runs
abbrev IsPhase : Phase → Type 0
IsPhase (Settled k) = Unit {0}
IsPhase (Running zero) = ⊥
IsPhase (Running (suc k)) = Unit {0}

-- as many rounds were settled as are settled: none was taken back
abbrev IsCounted : TwoWayState → Type 0
IsCounted st = (st.settles ≡ settled_count st.phase) × IsPhase st.phase

-- a state by its parts
abbrev state_of : Phase → List (List Rule) → List Bool → List Packet → State
state_of phase tables pending packets = record { phase = phase; tables = tables; pending = pending; packets = packets }

settled_one_more : (phase : Phase) (settles k : ℕ) → phase ≡ Running k → IsPhase phase → settles ≡ settled_count phase → suc settles ≡ settled_count (phase_after_settle phase)
settled_one_more (Settled j) settles k is begun same = absurd (let e : Settled j ≡ Running k = is in cc)
settled_one_more (Running zero) settles k is begun same = absurd begun
settled_one_more (Running (suc j)) settles k is begun same = ap suc same

settled_phase : (phase : Phase) → IsPhase (phase_after_settle phase)
settled_phase (Settled j) = tt
settled_phase (Running j) = tt

module _ (u : Rollout) where
  -- the same events may happen
  may_onward : (st : TwoWayState) → IsCounted st → (e : Event) → IsTwoWayEnabled u st (Onward e) → IsEnabled u.net u.rounds (onward_state st) e
  may_onward st counted event.Start may =
      let same : st.settles ≡ may.k = counted.0 ∙ ap settled_count may.settled in
      record {
        k = may.k;
        settled = may.settled;
        more = may.more;
        none_older = each_weaker (λ p. p.ended ≡ UnderWay → st.settles ≤ p.born) (λ p. p.ended ≡ UnderWay → may.k ≤ p.born)
            (λ p h under. subst (λ n. n ≤ p.born) same (h under)) st.packets may.none_older;
      }
  may_onward st counted (event.Change i) may =
      record { k = may.k; running = may.running; change = may.change; is = may.is; pending = turned_get st.in_force i false may.not_in_force; applies = may.applies }
  may_onward st counted event.Settle may = record { k = may.k; running = may.running; none_pending = turned_all st.in_force may.all_in_force }
  may_onward st counted (event.Enter place dst) may = may
  may_onward st counted (event.Hop i) may = may
  may_onward st counted (event.Lose i) may = may

  may_two_way : (st : TwoWayState) → IsCounted st → (e : Event) → IsEnabled u.net u.rounds (onward_state st) e → IsTwoWayEnabled u st (Onward e)
  may_two_way st counted event.Start may =
      let same : st.settles ≡ may.k = counted.0 ∙ ap settled_count may.settled in
      record {
        k = may.k;
        settled = may.settled;
        more = may.more;
        none_older = each_weaker (λ p. p.ended ≡ UnderWay → may.k ≤ p.born) (λ p. p.ended ≡ UnderWay → st.settles ≤ p.born)
            (λ p h under. subst (λ n. n ≤ p.born) (sym same) (h under)) st.packets may.none_older;
      }
  may_two_way st counted (event.Change i) may =
      record { k = may.k; running = may.running; change = may.change; is = may.is; not_in_force = got_turned st.in_force i may.pending; applies = may.applies }
  may_two_way st counted event.Settle may = record { k = may.k; running = may.running; all_in_force = all_turned st.in_force may.none_pending }
  may_two_way st counted (event.Enter place dst) may = may
  may_two_way st counted (event.Hop i) may = may
  may_two_way st counted (event.Lose i) may = may

  -- and lead to the same state
  same_after : (st : TwoWayState) → IsCounted st → (e : Event) → onward_state (two_way_after u st (Onward e)) ≡ state_after_event u.net u.rounds (onward_state st) e
  same_after st counted event.Start =
      ap (λ flags. state_of (Running (suc (settled_count st.phase))) st.tables flags st.packets) (turned_replicate (length (round_after (settled_count st.phase) u.rounds)) false)
  same_after st counted (event.Change i) = ap (λ flags. state_of st.phase (tables_made u st i) flags st.packets) (turned_set st.in_force i true)
  same_after st counted event.Settle = refl
  same_after st counted (event.Enter place dst) = ap (λ n. state_of st.phase st.tables (map not st.in_force) (st.packets ++ entered_packet place dst n ∷ [])) counted.0
  same_after st counted (event.Hop i) = refl
  same_after st counted (event.Lose i) = refl

  counted_after : (st : TwoWayState) → IsCounted st → (e : Event) → IsTwoWayEnabled u st (Onward e) → IsCounted (two_way_after u st (Onward e))
  counted_after st counted event.Start may = (counted.0, tt)
  counted_after st counted (event.Change i) may = counted
  counted_after st counted event.Settle may = (settled_one_more st.phase st.settles may.k may.running counted.1 counted.0, settled_phase st.phase)
  counted_after st counted (event.Enter place dst) may = counted
  counted_after st counted (event.Hop i) may = counted
  counted_after st counted (event.Lose i) may = counted

  are_onward : (st : TwoWayState) → IsCounted st → (events : List Event) → AreTwoWayEnabled u st (onward_events events) → AreEnabled u.net u.rounds (onward_state st) events
  are_onward st counted [] are = tt
  are_onward st counted (e ∷ events) are = (
    may_onward st counted e are.0,
    subst (λ s. AreEnabled u.net u.rounds s events) (same_after st counted e)
        (are_onward (two_way_after u st (Onward e)) (counted_after st counted e are.0) events are.1),
  )

  are_two_way : (st : TwoWayState) → IsCounted st → (events : List Event) → AreEnabled u.net u.rounds (onward_state st) events → AreTwoWayEnabled u st (onward_events events)
  are_two_way st counted [] are = tt
  are_two_way st counted (e ∷ events) are =
      let may = may_two_way st counted e are.0 in (
        may,
        are_two_way (two_way_after u st (Onward e)) (counted_after st counted e may) events
            (subst (λ s. AreEnabled u.net u.rounds s events) (sym (same_after st counted e)) are.1),
      )

  same_state : (st : TwoWayState) → IsCounted st → (events : List Event) → AreTwoWayEnabled u st (onward_events events)
      → onward_state (two_way_state u st (onward_events events)) ≡ state_after u.net u.rounds (onward_state st) events
  same_state st counted [] are = refl
  same_state st counted (e ∷ events) are =
      same_state (two_way_after u st (Onward e)) (counted_after st counted e are.0) events are.1
      ∙ ap (λ s. state_after u.net u.rounds s events) (same_after st counted e)

  pub onward_runs : (events : List Event) → IsTwoWayRun u (onward_events events) ↔ IsRun u events
  onward_runs events = (are_onward (first_two_way u.old) (refl, tt) events, are_two_way (first_two_way u.old) (refl, tt) events)

  pub onward_states : (events : List Event) → IsRun u events → onward_state (state_after_two_way u (onward_events events)) ≡ state_after_run u events
  onward_states events run = same_state (first_two_way u.old) (refl, tt) events ((onward_runs events).1 run)
