-- A driver that can't turn back, on the wire: the driver there is never turned, no session is opened again, and no switch is dead.
use Rattle.std.specs.Prelude.{◌≡◌, ◌≢◌, ◌<◌, ℕ, true, false, List, [], ◌∷◌, ◌++◌, map, Option, Some, None}
use Rattle.std.specs.List.{concat}
use Rattle.net_base.specs.declared.ids.SwitchId.{SwitchId}
use Rattle.topology.specs.Networks.{switch_count}
use Rattle.update_model.specs.Mixtures.{Rollout}
use Rattle.law_two_way_runs.specs.Laws.{onward_events}
use Rattle.switch_session.specs.Fronts.{front_of}
use Rattle.switch_session.specs.Channels.{ChannelState, is_failed}
use Rattle.switch_session.specs.Laws.{AreCut}
use Rattle.switch_session.specs.declared.Cause.{Cause}
use Rattle.switch_session.specs.declared.Session.{Session}
use Rattle.switch_session.specs.declared.Session.TheVariants.{Failed}
use Rattle.switch_session.specs.declared.fronts.Front.TheVariants.{Short}
use Rattle.update_driver.specs.Agreement.{two_way_call, Agree}
use Rattle.update_driver.specs.Calls as onward
use Rattle.update_driver.specs.Drivers.{DriverState, channel_at}
use Rattle.two_way_driver.specs.Calls.{DriverView}
use Rattle.two_way_driver.specs.Drivers.{peer_at}
use Rattle.two_way_driver.specs.Laws.{Call, events_in}
use Rattle.two_way_driver.specs.Sending.{texts_to}
use Rattle.law_wire.specs.Network.{driver_at, block_at}
use Rattle.law_wire_answers.specs.Exchanges.{SwitchTalk, traffic_behind}
use Rattle.law_wire_answers.specs.Failing.{fault_at, echoes_at, due_behind}

-- calls as those of the driver on the wire
abbrev pub wire_calls : List onward.Call → List Call
wire_calls calls = map two_way_call calls

-- the driver on the wire behind these calls
abbrev pub wire_driver : Rollout → List onward.Call → DriverView
wire_driver u calls = driver_at u (wire_calls calls)

-- all messages that it sent to a switch
abbrev pub wire_texts : Rollout → List onward.Call → SwitchId → List (List ℕ)
wire_texts u calls s = texts_to s (wire_driver u calls).state.said

-- ---- the same driver

-- the talk with a switch on its one session: all bytes that came from it, and all messages that were sent to it; and the switch isn't dead
pub record IsOneTalk (u : Rollout) (calls : List onward.Call) (s : SwitchId) (t : SwitchTalk) : Type 0 where
  pub came : t.came ≡ onward.bytes_from s calls
  pub sent : t.sent ≡ wire_texts u calls s
  pub alive : t.dead ≡ false
  pub kept : (peer_at (wire_driver u calls).state s).is_dead ≡ false

-- both drivers sent the same bytes, have the same sessions, logged the same events, are as far, and refuse to start in the same cases
pub record IsSameOnWire (u : Rollout) (calls : List onward.Call) (d : DriverState) : Type 0 where
  pub agree : Agree u.net u.rounds d (wire_driver u calls)
  pub talks : (s : SwitchId) → s.0 < switch_count u.net → IsOneTalk u calls s (traffic_behind (driver_at u []) s (wire_calls calls))

-- at one call more the one sends to each switch, and logs, just what the other says
pub record SaysAsOnWire (u : Rollout) (calls : List onward.Call) (c : onward.Call) (before after : DriverState) : Type 0 where
  pub sent : (s : SwitchId) → s.0 < switch_count u.net
      → (channel_at after s).sent ≡ (channel_at before s).sent ++ concat (texts_to s (block_at u (wire_calls calls) (two_way_call c)))
  pub log : onward_events after.log ≡ onward_events before.log ++ events_in (block_at u (wire_calls calls) (two_way_call c))

-- ---- failures

-- the session failed for this cause, or it didn't fail
abbrev pub FailedFor : Option Cause → Session → Type 0
FailedFor None session = is_failed session ≡ false
FailedFor (Some c) session = session ≡ Failed c

-- a channel whose session hasn't failed, and what it is behind one byte more. All bytes before it are cut into whole messages, as their length
-- fields say, and a rest; the session fails exactly where the rest with this byte breaks the rules, and behind HELLO exactly the echo requests
-- are replied to
pub record FailsAtByte (u : Rollout) (calls : List onward.Call) (s : SwitchId) (byte : ℕ) (before after : ChannelState) : Type 0 where
  pub messages : List (List ℕ)
  pub rest : List ℕ
  pub cut : AreCut (onward.bytes_from s calls) messages rest
  pub short : front_of rest ≡ Short
  pub session : FailedFor (fault_at messages (due_behind (wire_texts u calls s) messages) (rest ++ byte ∷ []) (front_of (rest ++ byte ∷ []))) after.session
  pub replies : messages ≢ [] → after.sent ≡ before.sent ++ concat (echoes_at (rest ++ byte ∷ []) (front_of (rest ++ byte ∷ [])))

-- a session that failed stays so
pub record SessionFails (u : Rollout) (calls : List onward.Call) (s : SwitchId) (byte : ℕ) (before after : ChannelState) : Type 0 where
  pub going : is_failed before.session ≡ false → FailsAtByte u calls s byte before after
  pub failed : (c : Cause) → before.session ≡ Failed c → after.session ≡ Failed c

-- a switch whose session failed is sent nothing
abbrev pub SendsNoneFailed : ChannelState → ChannelState → Type 0
SendsNoneFailed before after = is_failed before.session ≡ true → after.sent ≡ before.sent
