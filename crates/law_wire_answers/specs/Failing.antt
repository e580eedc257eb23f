-- What fails a session: bytes and messages of a switch that break the rules (OpenFlow 1.0.0, sections 5.1 and 5.5).
use Rattle.std.specs.Prelude.{◌≡◌, ℕ, ◌==◌, Bool, true, false, if◌then◌else◌, List, [], ◌∷◌, ◌++◌, length, filter, filter_map, slice_get, Option, Some, None}
use Rattle.std.specs.Option.{option_map_or}
use Rattle.net_base.specs.declared.ids.SwitchId.{SwitchId}
use Rattle.openflow10.specs.Layout.{number_at}
use Rattle.switch_session.specs.Fronts.{front_of, type_in, xid_in}
use Rattle.switch_session.specs.Channels.{echo_reply, is_outstanding}
use Rattle.switch_session.specs.Laws.{is_echo, AreCut}
use Rattle.switch_session.specs.declared.Cause.{Cause}
use Rattle.switch_session.specs.declared.Cause.TheVariants as cause
use Rattle.switch_session.specs.declared.fronts.Front.{Front}
use Rattle.switch_session.specs.declared.fronts.Front.TheVariants.{Short, Fault, Message}
use Rattle.two_way_driver.specs.Sending.{texts_to}
use Rattle.two_way_driver.specs.declared.DriverOutput.{DriverOutput}
use Rattle.law_wire_answers.specs.Exchanges.{failures_to, SwitchTalk}

-- why the first message on a session fails it, if it does: it has to be HELLO (OFPT_HELLO, 0)
abbrev pub first_fault : List ℕ → Option Cause
first_fault message = if type_in message == 0 then None else Some cause.NoHello

-- why a later one does: an error (OFPT_ERROR, 1), or a barrier reply (OFPT_BARRIER_REPLY, 19) whose xid isn't that of the request that is to
-- be answered next
abbrev pub later_fault : Option ℕ → List ℕ → Option Cause
later_fault due message =
    if type_in message == 1 then Some (cause.Error (number_at 8 2 message) (number_at 10 2 message))
    else if type_in message == 19 then (if is_outstanding (xid_in message) due then None else Some (cause.Xid (xid_in message)))
    else None

-- ---- barrier requests

-- the xid of a barrier request (OFPT_BARRIER_REQUEST, 18)
abbrev pub barrier_xid : List ℕ → Option ℕ
barrier_xid text = if type_in text == 18 then Some (xid_in text) else None

-- those of the barrier requests among messages that were sent, in order
abbrev pub barrier_xids : List (List ℕ) → List ℕ
barrier_xids sent = filter_map barrier_xid sent

abbrev pub is_barrier_reply : List ℕ → Bool
is_barrier_reply message = type_in message == 19

-- the request that is to be answered next, where these messages were sent and came: each barrier reply answered one request, in order
abbrev pub due_behind : List (List ℕ) → List (List ℕ) → Option ℕ
due_behind sent came = slice_get (barrier_xids sent) (length (filter is_barrier_reply came))

-- ---- bytes

-- why a whole message fails a session, behind those before it
abbrev pub message_fault : List (List ℕ) → Option ℕ → List ℕ → Option Cause
message_fault [] due message = first_fault message
message_fault (m ∷ before) due message = later_fault due message

-- why what stands behind whole messages fails it: a header that breaks the rules, as soon as it is there, or a whole message
abbrev pub fault_at : List (List ℕ) → Option ℕ → List ℕ → Front → Option Cause
fault_at before due piece Short = None
fault_at before due piece (Fault c) = Some c
fault_at before due piece (Message n) = message_fault before due piece

-- the reply to an echo request, where one is whole
abbrev pub echoes_at : List ℕ → Front → List (List ℕ)
echoes_at piece Short = []
echoes_at piece (Fault c) = []
echoes_at piece (Message n) = if is_echo piece then echo_reply piece ∷ [] else []

-- what is said of a byte that comes on a session. All bytes before it are cut into whole messages, as their length fields say, and a rest; the
-- session fails exactly where the rest with this byte breaks the rules; and behind HELLO exactly the echo requests are replied to
pub record ByteTold (t : SwitchTalk) (s : SwitchId) (byte : ℕ) (said : List DriverOutput) : Type 0 where
  pub before : List (List ℕ)
  pub rest : List ℕ
  pub cut : AreCut t.came before rest
  pub short : front_of rest ≡ Short
  pub failures : failures_to s said
      ≡ option_map_or (λ c. c ∷ []) (fault_at before (due_behind t.sent before) (rest ++ byte ∷ []) (front_of (rest ++ byte ∷ []))) []
  pub replies : (before ≡ [] → ⊥) → texts_to s said ≡ echoes_at (rest ++ byte ∷ []) (front_of (rest ++ byte ∷ []))

-- what is said of a byte from a switch, behind what was exchanged with it: nothing once a failure was said, or where the switch is dead
pub record FailsByRules (t : SwitchTalk) (s : SwitchId) (byte : ℕ) (said : List DriverOutput) : Type 0 where
  pub going : t.failures ≡ [] → t.dead ≡ false → ByteTold t s byte said
  pub failed : (t.failures ≡ [] → ⊥) → said ≡ []
  pub dead : t.dead ≡ true → said ≡ []

-- a failure of the session was said
abbrev pub FailureWasSaid : SwitchTalk → Type 0
FailureWasSaid t = (t.failures ≡ [] → ⊥) × (t.dead ≡ false)

-- nothing is sent to a switch, and no failure is said of it
pub record IsQuietTo (s : SwitchId) (said : List DriverOutput) : Type 0 where
  pub texts : texts_to s said ≡ []
  pub failures : failures_to s said ≡ []
