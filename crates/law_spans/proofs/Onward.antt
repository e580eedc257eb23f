-- Runs that wait everywhere are runs with any waits; and where each round is a wait, runs with waits in which nothing is turned back are those of the update.
use Rattle.std.proofs.Common.{◌≡◌, ℕ, Bool, zero, suc, ◌<◌, ◌≤◌, List, [], ◌∷◌, length, refl, sym, ◌∙◌, subst, ap, inl, inr, arith}
use Rattle.std.specs.Prelude.{◌↔◌}
use Rattle.std.specs.List.{AllByRecursion}
use Rattle.path_walk.specs.declared.Ended.TheVariants.{UnderWay}
use Rattle.update_model.specs.Mixtures.{Rollout}
use Rattle.update_model.specs.Runs.{IsRun, state_after_run}
use Rattle.update_model.specs.States.{State, phase_after_settle, settled_count}
use Rattle.update_model.specs.declared.Change.{Change}
use Rattle.update_model.specs.declared.Event.{Event}
use Rattle.update_model.specs.declared.Event.TheVariants as event
use Rattle.update_model.specs.declared.Packet.{Packet}
use Rattle.update_model.specs.declared.Phase.{Phase}
use Rattle.update_model.specs.declared.Phase.TheVariants.{Settled, Running}
use Rattle.certificates.specs.Consistent.{IsConsistentPacket, IsConsistent}
use Rattle.certificates.specs.Updates.{Update}
use Rattle.law_two_way_runs.specs.States.{TwoWayEvent, TwoWayState, Onward, Undo, Back, SettleBack, NoneOlder, IsTwoWayEnabled}
use Rattle.law_two_way_runs.specs.Runs.{AreTwoWayEnabled, two_way_state, IsTwoWayRun, state_after_two_way}
use Rattle.law_two_way_runs.specs.Laws.{onward_events, onward_state, IsTwoWayConsistent}
use Rattle.law_two_way_runs.proofs.NeverBack.{onward_runs, onward_states}
use Rattle.law_spans.specs.Spans.{IsWait, AreAllWaits}
use Rattle.law_spans.specs.Laws.{IsConsistentWithWaits}
use Rattle.law_spans.specs.Runs.{WaitState, first_with_waits, IsEnabledWithWaits, ran_in, after_with_waits, AreEnabledWithWaits, state_with_waits, IsRunWithWaits, state_after_with_waits}

-- the states are those of runs both ways
same_states : (u : Rollout) (st : WaitState) (events : List TwoWayEvent) → (state_with_waits u st events).state ≡ two_way_state u st.state events
same_states u st [] = refl
same_states u st (e ∷ events) = same_states u (after_with_waits u st e) events

pub same_state_after : (u : Rollout) (events : List TwoWayEvent) → (state_after_with_waits u events).state ≡ state_after_two_way u events
same_state_after u events = same_states u (first_with_waits u.old) events

-- whoever waits may go on
may_with_waits : (u : Rollout) (waits : List ℕ) (st : WaitState) (e : TwoWayEvent) → IsTwoWayEnabled u st.state e → IsEnabledWithWaits u waits st e
may_with_waits u waits st (Onward event.Start) may = record { k = may.k; settled = may.settled; more = may.more; waited = inr may.none_older }
may_with_waits u waits st (Onward (event.Change i)) may = may
may_with_waits u waits st (Onward event.Settle) may = may
may_with_waits u waits st (Onward (event.Enter place dst)) may = may
may_with_waits u waits st (Onward (event.Hop i)) may = may
may_with_waits u waits st (Onward (event.Lose i)) may = may
may_with_waits u waits st (Undo i) may = may
may_with_waits u waits st Back may = record { k = may.k; settled = may.settled; waited = inr may.none_older }
may_with_waits u waits st SettleBack may = may

are_with_waits : (u : Rollout) (waits : List ℕ) (st : WaitState) (events : List TwoWayEvent) → AreTwoWayEnabled u st.state events → AreEnabledWithWaits u waits st events
are_with_waits u waits st [] are = tt
are_with_waits u waits st (e ∷ events) are = (may_with_waits u waits st e are.0, are_with_waits u waits (after_with_waits u st e) events are.1)

pub waiting_is_allowed : (u : Rollout) (waits : List ℕ) (events : List TwoWayEvent) → IsTwoWayRun u events → IsRunWithWaits u waits events
waiting_is_allowed u waits events run = are_with_waits u waits (first_with_waits u.old) events run

-- onward the running round ran last, and between rounds the last settled one; so many rounds were settled as are settled
abbrev IsOnward : Phase → ℕ → ℕ → Type 0
IsOnward (Settled k) settles ran = (ran ≡ k) × (settles ≡ k)
IsOnward (Running zero) settles ran = ⊥
IsOnward (Running (suc k)) settles ran = (ran ≡ suc k) × (settles ≡ k)

none_yet : (packets : List Packet) (settles : ℕ) → settles ≡ 0 → AllByRecursion (λ p. p.ended ≡ UnderWay → settles ≤ p.born) packets
none_yet [] settles none = tt
none_yet (p ∷ packets) settles none = (λ under. omega arith, none_yet packets settles none)

module _ (u : Rollout) (waits : List ℕ) (all : AreAllWaits waits (length u.rounds)) where
  -- a Start is free before the first round alone, and there no packet is older
  waited_for : (st : WaitState) (k : ℕ) → st.state.phase ≡ Settled k → IsOnward st.state.phase st.state.settles st.ran → (may : IsEnabledWithWaits u waits st (Onward event.Start)) → may.k ≡ k → NoneOlder st.state
  waited_for st zero settled onward may is =
      none_yet st.state.packets st.state.settles (subst (λ p. IsOnward p st.state.settles st.ran) settled onward).1
  waited_for st (suc k) settled onward may is =
      let here = subst (λ p. IsOnward p st.state.settles st.ran) settled onward in
      let ran = here.0 in
      elim may.waited [
        | inl free ↦ elim free [
          | inl none ↦ absurd (none (subst (λ n. IsWait waits n) (sym is) (all k (subst (λ n. n < length u.rounds) is may.more))))
          | inr again ↦ absurd (omega arith)
        ]
        | inr none ↦ none
      ]

  may_two_way : (st : WaitState) → IsOnward st.state.phase st.state.settles st.ran → (e : Event) → IsEnabledWithWaits u waits st (Onward e) → IsTwoWayEnabled u st.state (Onward e)
  may_two_way st onward event.Start may = record { k = may.k; settled = may.settled; more = may.more; none_older = waited_for st may.k may.settled onward may refl }
  may_two_way st onward (event.Change i) may = may
  may_two_way st onward event.Settle may = may
  may_two_way st onward (event.Enter place dst) may = may
  may_two_way st onward (event.Hop i) may = may
  may_two_way st onward (event.Lose i) may = may

  -- where no round begins, the same one ran last
  onward_still : (phase : Phase) (settles ran : ℕ) → IsOnward phase settles ran → IsOnward phase settles (ran_in phase ran)
  onward_still (Settled k) settles ran h = h
  onward_still (Running zero) settles ran h = h
  onward_still (Running (suc k)) settles ran h = (refl, h.1)

  onward_start : (phase : Phase) (settles ran k : ℕ) → phase ≡ Settled k → IsOnward phase settles ran → IsOnward (Running (suc (settled_count phase))) settles (suc (settled_count phase))
  onward_start (Settled j) settles ran k is h = (refl, h.1)
  onward_start (Running j) settles ran k is h = absurd (let e : Running j ≡ Settled k = is in cc)

  onward_settle : (phase : Phase) (settles ran k : ℕ) → phase ≡ Running k → IsOnward phase settles ran → IsOnward (phase_after_settle phase) (suc settles) (ran_in (phase_after_settle phase) ran)
  onward_settle (Settled j) settles ran k is h = absurd (let e : Settled j ≡ Running k = is in cc)
  onward_settle (Running zero) settles ran k is h = absurd h
  onward_settle (Running (suc j)) settles ran k is h = (h.0, ap suc h.1)

  onward_after : (st : WaitState) → IsOnward st.state.phase st.state.settles st.ran → (e : Event) → IsEnabledWithWaits u waits st (Onward e)
      → IsOnward (after_with_waits u st (Onward e)).state.phase (after_with_waits u st (Onward e)).state.settles (after_with_waits u st (Onward e)).ran
  onward_after st onward event.Start may = onward_start st.state.phase st.state.settles st.ran may.k may.settled onward
  onward_after st onward (event.Change i) may = onward_still st.state.phase st.state.settles st.ran onward
  onward_after st onward event.Settle may = onward_settle st.state.phase st.state.settles st.ran may.k may.running onward
  onward_after st onward (event.Enter place dst) may = onward_still st.state.phase st.state.settles st.ran onward
  onward_after st onward (event.Hop i) may = onward_still st.state.phase st.state.settles st.ran onward
  onward_after st onward (event.Lose i) may = onward_still st.state.phase st.state.settles st.ran onward

  are_two_way : (st : WaitState) → IsOnward st.state.phase st.state.settles st.ran → (events : List Event) → AreEnabledWithWaits u waits st (onward_events events)
      → AreTwoWayEnabled u st.state (onward_events events)
  are_two_way st onward [] are = tt
  are_two_way st onward (e ∷ events) are =
      (may_two_way st onward e are.0, are_two_way (after_with_waits u st (Onward e)) (onward_after st onward e are.0) events are.1)

  pub runs_as_before : (events : List Event) → IsRunWithWaits u waits (onward_events events) ↔ IsRun u events
  runs_as_before events = (
    λ run. (onward_runs u events).0 (are_two_way (first_with_waits u.old) (refl, refl) events run),
    λ run. waiting_is_allowed u waits (onward_events events) ((onward_runs u events).1 run),
  )

pub states_as_before : (u : Rollout) (events : List Event) → IsRun u events → onward_state (state_after_with_waits u (onward_events events)).state ≡ state_after_run u events
states_as_before u events run = ap onward_state (same_state_after u (onward_events events)) ∙ onward_states u events run

-- whoever waits everywhere is as safe as with these waits
pub two_way_safe : (u : Update) (rounds : List (List Change)) (waits : List ℕ) (two_phase : Bool) → IsConsistentWithWaits u rounds waits two_phase → IsTwoWayConsistent u rounds two_phase
two_way_safe u rounds waits two_phase consistent events run =
    let by : Rollout = record { net = u.net; old = u.old; rounds = rounds } in
    subst (λ (st : TwoWayState). AllByRecursion (IsConsistentPacket u two_phase) st.packets) (same_state_after by events) (consistent events (waiting_is_allowed by waits events run))

pub onward_safe : (u : Update) (rounds : List (List Change)) (waits : List ℕ) (two_phase : Bool) → IsConsistentWithWaits u rounds waits two_phase → IsConsistent u rounds two_phase
onward_safe u rounds waits two_phase consistent events run =
    let by : Rollout = record { net = u.net; old = u.old; rounds = rounds } in
    subst (λ (st : State). AllByRecursion (IsConsistentPacket u two_phase) st.packets) (onward_states by events run)
    (two_way_safe u rounds waits two_phase consistent (onward_events events) ((onward_runs by events).1 run))
