-- Which way an update goes, when it turns, and why a round isn't begun.
use Rattle.std.specs.Prelude.{◌≡◌, ◌↔◌, ◌<◌, ℕ, zero, suc, Bool, true, false, if◌then◌else◌, List, [], ◌∷◌, length, Some, None}
use Rattle.net_base.specs.declared.ids.SwitchId.{SwitchId}
use Rattle.topology.specs.Networks.{switch_count}
use Rattle.update_model.specs.Changes.{round_after}
use Rattle.update_model.specs.declared.Change.{Change}
use Rattle.update_model.specs.declared.Phase.{Phase}
use Rattle.update_model.specs.declared.Phase.TheVariants as phase
use Rattle.law_two_way_runs.specs.States.{TwoWayEvent}
use Rattle.law_two_way_runs.specs.States as two_way
use Rattle.round_messages.specs.Requests.{is_changed}
use Rattle.two_way_driver.specs.Calls.{DriverView, start_fault, back_fault}
use Rattle.two_way_driver.specs.Laws.{Call, Start, Back, Reopen, Feed, Dead, events_in}
use Rattle.two_way_driver.specs.Drivers.{peer_at, is_open_or_dead}
use Rattle.two_way_driver.specs.Words.{after_call_anew}
use Rattle.two_way_driver.specs.declared.Stage.{Stage}
use Rattle.two_way_driver.specs.declared.Stage.TheVariants.{Settled, Onward, Undone}
use Rattle.two_way_driver.specs.declared.faults.CallFault.{CallFault}
use Rattle.two_way_driver.specs.declared.faults.CallFault.TheVariants as fault
use Rattle.law_wire_answers.specs.Exchanges.{Exchange, exchanges_from, begins_way}

-- ---- the way

abbrev pub is_back : Call → Bool
is_back Start = false
is_back Back = true
is_back (Reopen s) = false
is_back (Feed s bytes) = false
is_back (Dead s) = false

-- behind a call that begins a way the update goes that way
abbrev pub goes_back_then : Exchange → Bool → Bool
goes_back_then e before = if begins_way e then is_back e.call else before

abbrev pub goes_back_from : Bool → List Exchange → Bool
goes_back_from before [] = before
goes_back_from before (e ∷ es) = goes_back_from (goes_back_then e before) es

-- whether the update goes back: the last of the calls that began a way was `Back`
abbrev pub goes_back : DriverView → List Call → Bool
goes_back made calls = goes_back_from false (exchanges_from made calls)

-- how far an update is in this phase, if it goes this way
abbrev pub stage_going : Phase → Bool → Stage
stage_going (phase.Settled k) back = Settled k
stage_going (phase.Running zero) back = Settled zero
stage_going (phase.Running (suc k)) back = if back then Undone k else Onward k

-- ---- refusals

-- the first of the switches with a change in a round that aren't dead and whose session isn't open
pub record IsFirstClosed (v : DriverView) (round : List Change) (s : SwitchId) : Type 0 where
  pub within : s.0 < switch_count v.net
  pub changed : is_changed round s ≡ true
  pub closed : is_open_or_dead (peer_at v.state s) ≡ false
  pub first : (r : SwitchId) → r.0 < s.0 → is_changed round r ≡ true → is_open_or_dead (peer_at v.state r) ≡ true

-- why a round isn't begun in a phase: one is running, none is left, or a switch of the next one that isn't dead has no open session
abbrev pub StartCause : DriverView → Phase → CallFault → Type 0
StartCause v now fault.Running = (k : ℕ) × (now ≡ phase.Running (suc k))
StartCause v now fault.Finished = now ≡ phase.Settled (length v.rounds)
StartCause v now fault.NotBegun = ⊥
StartCause v now (fault.NotOpen s) = (k : ℕ) × (now ≡ phase.Settled k) × IsFirstClosed v (round_after k v.rounds) s
StartCause v now fault.Memory = ⊥

-- why an update isn't turned back in a phase: it goes back, nothing is settled, or a switch of the round that was settled last that isn't dead has no open session
abbrev pub BackCause : DriverView → Phase → Bool → CallFault → Type 0
BackCause v now back fault.Running = (k : ℕ) × (now ≡ phase.Running (suc k)) × (back ≡ true)
BackCause v now back fault.Finished = ⊥
BackCause v now back fault.NotBegun = now ≡ phase.Settled 0
BackCause v now back (fault.NotOpen s) = (k : ℕ) × (now ≡ phase.Settled (suc k)) × IsFirstClosed v (round_after k v.rounds) s
BackCause v now back fault.Memory = ⊥

-- ---- turning

-- `Back` turns round k while it runs: no event comes about, and the round is being undone from then on
pub record TurnsRound (v : DriverView) (k : ℕ) : Type 0 where
  pub taken : back_fault v ≡ None
  pub quiet : events_in (after_call_anew v Back).state.said ≡ []
  pub stage : (after_call_anew v Back).state.stage ≡ Undone k

-- `Back` begins to undo the round that was settled last
pub record BeginsBack (v : DriverView) : Type 0 where
  pub taken : back_fault v ≡ None
  pub behind : List TwoWayEvent
  pub says : events_in (after_call_anew v Back).state.said ≡ two_way.Back ∷ behind

-- in this phase, while the update goes this way: it is as far as the driver keeps, turns wherever that makes sense, and is refused for the causes
-- above alone
pub record TurnsAsAsked (v : DriverView) (now : Phase) (back : Bool) : Type 0 where
  pub stage : v.state.stage ≡ stage_going now back
  pub turns : (k : ℕ) → now ≡ phase.Running (suc k) → back ≡ false → TurnsRound v k
  pub undoes : (k : ℕ) → now ≡ phase.Settled (suc k)
      → ((s : SwitchId) → s.0 < switch_count v.net → is_changed (round_after k v.rounds) s ≡ true → is_open_or_dead (peer_at v.state s) ≡ true) → BeginsBack v
  pub start_refused : (f : CallFault) → (start_fault v ≡ Some f) ↔ StartCause v now f
  pub back_refused : (f : CallFault) → (back_fault v ≡ Some f) ↔ BackCause v now back f
