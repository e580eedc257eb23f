-- What calls of a driver and what they say make of the talk with each switch.
use Rattle.std.specs.Prelude.{ℕ, ◌==◌, ◌&&◌, ◌||◌, Bool, true, false, if◌then◌else◌, List, [], ◌∷◌, ◌++◌, length, filter, filter_map, Option, Some, None, is_none}
use Rattle.net_base.specs.declared.ids.SwitchId.{SwitchId}
use Rattle.switch_session.specs.Channels.{hello}
use Rattle.switch_session.specs.declared.Cause.{Cause}
use Rattle.two_way_driver.specs.Calls.{DriverView, start_fault, back_fault}
use Rattle.two_way_driver.specs.Laws.{Call, Start, Back, Reopen, Feed, Dead}
use Rattle.two_way_driver.specs.Sending.{texts_to}
use Rattle.two_way_driver.specs.Words.{after_call_anew}
use Rattle.two_way_driver.specs.declared.DriverOutput.{DriverOutput}
use Rattle.two_way_driver.specs.declared.DriverOutput.TheVariants.{Send, Failed, Log}
use Rattle.two_way_driver.specs.declared.Stage.{Stage}
use Rattle.two_way_driver.specs.declared.Stage.TheVariants.{Settled, Onward, Undone}

-- a call: how far the update is before it, whether it isn't refused, and what it says
pub record Exchange : Type 0 where
  pub stage : Stage
  pub call : Call
  pub taken : Bool
  pub said : List DriverOutput

abbrev pub is_taken : DriverView → Call → Bool
is_taken v Start = is_none (start_fault v)
is_taken v Back = is_none (back_fault v)
is_taken v (Reopen s) = true
is_taken v (Feed s bytes) = true
is_taken v (Dead s) = true

abbrev pub exchange_of : DriverView → Call → Exchange
exchange_of v c = record { stage = v.state.stage; call = c; taken = is_taken v c; said = (after_call_anew v c).state.said }

-- what calls exchange, one after the other
abbrev pub exchanges_from : DriverView → List Call → List Exchange
exchanges_from v [] = []
exchanges_from v (c ∷ calls) = exchange_of v c ∷ exchanges_from (after_call_anew v c) calls

-- ---- ways

-- the update is asked to go a way: onward, or back
abbrev pub is_asked_way : Call → Bool
is_asked_way Start = true
is_asked_way Back = true
is_asked_way (Reopen s) = false
is_asked_way (Feed s bytes) = false
is_asked_way (Dead s) = false

-- from this call on the update goes a way
abbrev pub begins_way : Exchange → Bool
begins_way e = is_asked_way e.call && e.taken

abbrev pub is_between_rounds : Stage → Bool
is_between_rounds (Settled k) = true
is_between_rounds (Onward k) = false
is_between_rounds (Undone k) = false

-- from this call on a round runs
abbrev pub begins_round : Exchange → Bool
begins_round e = begins_way e && is_between_rounds e.stage

-- how often the update began to go a way
abbrev pub ways_begun : DriverView → List Call → ℕ
ways_begun made calls = length (filter begins_way (exchanges_from made calls))

-- ---- the talk with a switch

-- the failure of the session with a switch that is said, if one is
abbrev pub failure_to : SwitchId → DriverOutput → Option Cause
failure_to s (Send t text) = None
failure_to s (Failed t c) = if t.0 == s.0 then Some c else None
failure_to s (Log e) = None

abbrev pub failures_to : SwitchId → List DriverOutput → List Cause
failures_to s said = filter_map (failure_to s) said

-- on its present session: the bytes that came, and the messages that were sent in order; of these, those since the running round was begun,
-- and those since it goes the way that it goes; the failures that were said; and whether the switch is dead
pub record SwitchTalk : Type 0 where
  pub came : List ℕ
  pub sent : List (List ℕ)
  pub of_round : List (List ℕ)
  pub of_way : List (List ℕ)
  pub failures : List Cause
  pub dead : Bool

-- HELLO was sent
abbrev pub first_traffic : SwitchTalk
first_traffic = record { came = []; sent = hello ∷ []; of_round = hello ∷ []; of_way = hello ∷ []; failures = []; dead = false }

-- a call begins another session, or ends this one
abbrev pub is_reopened : SwitchId → Call → Bool
is_reopened s Start = false
is_reopened s Back = false
is_reopened s (Reopen t) = t.0 == s.0
is_reopened s (Feed t bytes) = false
is_reopened s (Dead t) = t.0 == s.0

-- what came so far and in a call
abbrev pub came_then : SwitchId → Call → List ℕ → List ℕ
came_then s Start came = came
came_then s Back came = came
came_then s (Reopen t) came = if t.0 == s.0 then [] else came
came_then s (Feed t bytes) came = if t.0 == s.0 then came ++ bytes else came
came_then s (Dead t) came = if t.0 == s.0 then [] else came

-- whether a switch is dead behind a call: `Dead` says so, until its session is opened again
abbrev pub dead_then : SwitchId → Call → Bool → Bool
dead_then s Start dead = dead
dead_then s Back dead = dead
dead_then s (Reopen t) dead = if t.0 == s.0 then false else dead
dead_then s (Feed t bytes) dead = dead
dead_then s (Dead t) dead = if t.0 == s.0 then true else dead

-- what was sent so far, or nothing where it is counted anew
abbrev pub unless_anew : Bool → List (List ℕ) → List (List ℕ)
unless_anew anew sent = if anew then [] else sent

abbrev pub traffic_then : SwitchId → Exchange → SwitchTalk → SwitchTalk
traffic_then s e t = record {
  came = came_then s e.call t.came;
  sent = unless_anew (is_reopened s e.call) t.sent ++ texts_to s e.said;
  of_round = unless_anew (is_reopened s e.call || begins_round e) t.of_round ++ texts_to s e.said;
  of_way = unless_anew (is_reopened s e.call || begins_way e) t.of_way ++ texts_to s e.said;
  failures = (if is_reopened s e.call then [] else t.failures) ++ failures_to s e.said;
  dead = dead_then s e.call t.dead;
}

abbrev pub traffic_from : SwitchId → SwitchTalk → List Exchange → SwitchTalk
traffic_from s t [] = t
traffic_from s t (e ∷ es) = traffic_from s (traffic_then s e t) es

-- the talk with a switch behind calls of a driver that was just made
abbrev pub traffic_behind : DriverView → SwitchId → List Call → SwitchTalk
traffic_behind made s calls = traffic_from s first_traffic (exchanges_from made calls)
