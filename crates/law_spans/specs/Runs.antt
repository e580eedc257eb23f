-- Runs with waits, both ways: packets are waited for only where a round may not begin freely.
use Rattle.std.specs.Prelude.{◌≡◌, ◌⊎◌, ℕ, zero, suc, ◌<◌, List, [], ◌∷◌, length}
use Rattle.flow_rules.specs.declared.rules.Rule.{Rule}
use Rattle.update_model.specs.Mixtures.{Rollout}
use Rattle.update_model.specs.declared.Event.TheVariants as event
use Rattle.update_model.specs.declared.Phase.{Phase}
use Rattle.update_model.specs.declared.Phase.TheVariants.{Settled, Running}
use Rattle.law_two_way_runs.specs.States.{TwoWayEvent, Onward, Back, TwoWayState, first_two_way, NoneOlder, IsTwoWayEnabled, two_way_after}
use Rattle.law_spans.specs.Spans.{IsWait}

-- a state, and the round that ran last, counted from 1: 0 before the first Start
pub record WaitState : Type 0 where
  pub state : TwoWayState
  pub ran : ℕ

-- the first state: no round ran yet
abbrev pub first_with_waits : List (List Rule) → WaitState
first_with_waits old = record { state = first_two_way old; ran = 0 }

-- where k rounds are settled the next one may begin freely: it is no wait, or it ran last and was undone
abbrev pub IsStartFree : List ℕ → ℕ → ℕ → Type 0
IsStartFree waits ran k = (¬ IsWait waits k) ⊎ (ran ≡ suc k)

-- where k rounds are settled the last of them may begin to be undone freely: it ran last
abbrev pub IsBackFree : ℕ → ℕ → Type 0
IsBackFree ran k = ran ≡ k

-- the next round may begin: freely, or behind packets that entered since the last one was settled
pub record MayStartWithWaits (u : Rollout) (waits : List ℕ) (st : WaitState) : Type 0 where
  pub k : ℕ
  pub settled : st.state.phase ≡ Settled k
  pub more : k < length u.rounds
  pub waited : IsStartFree waits st.ran k ⊎ NoneOlder st.state

-- the round that was settled last may begin to be undone, likewise
pub record MayTurnBackWithWaits (st : WaitState) : Type 0 where
  pub k : ℕ
  pub settled : st.state.phase ≡ Settled (suc k)
  pub waited : IsBackFree st.ran (suc k) ⊎ NoneOlder st.state

-- when an event may happen
abbrev pub IsEnabledWithWaits : Rollout → List ℕ → WaitState → TwoWayEvent → Type 0
IsEnabledWithWaits u waits st (Onward event.Start) = MayStartWithWaits u waits st
IsEnabledWithWaits u waits st Back = MayTurnBackWithWaits st
IsEnabledWithWaits u waits st e = IsTwoWayEnabled u st.state e

-- the round that ran last: the running one, where one runs
abbrev pub ran_in : Phase → ℕ → ℕ
ran_in (Running k) ran = k
ran_in (Settled k) ran = ran

-- the state after an event
abbrev pub after_with_waits : Rollout → WaitState → TwoWayEvent → WaitState
after_with_waits u st e = record { state = two_way_after u st.state e; ran = ran_in (two_way_after u st.state e).phase st.ran }

-- each event is enabled in turn
abbrev pub AreEnabledWithWaits : Rollout → List ℕ → WaitState → List TwoWayEvent → Type 0
AreEnabledWithWaits u waits st [] = Unit {0}
AreEnabledWithWaits u waits st (e ∷ es) = IsEnabledWithWaits u waits st e × AreEnabledWithWaits u waits (after_with_waits u st e) es

-- the state that the events lead to
abbrev pub state_with_waits : Rollout → WaitState → List TwoWayEvent → WaitState
state_with_waits u st [] = st
state_with_waits u st (e ∷ es) = state_with_waits u (after_with_waits u st e) es

-- a run with waits
abbrev pub IsRunWithWaits : Rollout → List ℕ → List TwoWayEvent → Type 0
IsRunWithWaits u waits events = AreEnabledWithWaits u waits (first_with_waits u.old) events

-- the state after such a run
abbrev pub state_after_with_waits : Rollout → List TwoWayEvent → WaitState
state_after_with_waits u events = state_with_waits u (first_with_waits u.old) events

-- the round that ran last, as definitions count rounds, from 0; before the first Start the first one
abbrev pub last_round : ℕ → ℕ
last_round zero = 0
last_round (suc k) = k
