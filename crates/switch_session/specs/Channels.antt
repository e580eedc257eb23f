-- The channel between a controller and one switch (OpenFlow 1.0.0, sections 4.5 and 5.5): what came and what was sent.
use Rattle.std.specs.Prelude.{ℕ, ◌==◌, Bool, true, false, if◌then◌else◌, List, [], ◌∷◌, ◌++◌, take, drop, slice_set, Option, Some, None}
use Rattle.openflow10.specs.Layout.{number_at}
use Rattle.switch_session.specs.Fronts.{front_of, type_in, xid_in}
use Rattle.switch_session.specs.declared.fronts.Front.{Front}
use Rattle.switch_session.specs.declared.fronts.Front.TheVariants.{Short, Fault, Message}
use Rattle.switch_session.specs.declared.Cause.{Cause}
use Rattle.switch_session.specs.declared.Cause.TheVariants as cause
use Rattle.switch_session.specs.declared.Session.{Session}
use Rattle.switch_session.specs.declared.Session.TheVariants.{Waiting, Open, Failed}

-- the session, the bytes that came and aren't read yet, all bytes that were sent, and the xid of the barrier that is outstanding
pub record ChannelState : Type 0 where
  pub session : Session
  pub unread : List ℕ
  pub sent : List ℕ
  pub outstanding : Option ℕ

-- OFPT_HELLO with xid 0, a header alone
abbrev pub hello : List ℕ
hello = 1 ∷ 0 ∷ 0 ∷ 8 ∷ 0 ∷ 0 ∷ 0 ∷ 0 ∷ []

-- a channel at the beginning: HELLO was sent
abbrev pub first_channel : ChannelState
first_channel = record { session = Waiting; unread = []; sent = hello; outstanding = None }

-- whether a session failed, and whether it is open
abbrev pub is_failed : Session → Bool
is_failed Waiting = false
is_failed Open = false
is_failed (Failed c) = true

abbrev pub is_open : Session → Bool
is_open Waiting = false
is_open Open = true
is_open (Failed c) = false

-- a channel whose session failed: it drops its unread bytes
abbrev pub after_failure : Cause → ChannelState → ChannelState
after_failure c channel = record channel { session = Failed c; unread = [] }

-- the reply to an echo request: the same bytes with type OFPT_ECHO_REPLY (3)
abbrev pub echo_reply : List ℕ → List ℕ
echo_reply request = slice_set request 1 3

-- whether an xid is that of the outstanding barrier
abbrev pub is_outstanding : ℕ → Option ℕ → Bool
is_outstanding xid None = false
is_outstanding xid (Some n) = n == xid

-- a barrier reply comes
abbrev pub after_reply : ℕ → ChannelState → ChannelState
after_reply xid channel = if is_outstanding xid channel.outstanding then record channel { outstanding = None } else after_failure (cause.Xid xid) channel

-- a message comes to an open session: OFPT_ERROR (1), OFPT_ECHO_REQUEST (2), OFPT_BARRIER_REPLY (19), or one that changes nothing
abbrev pub taken_open : List ℕ → ChannelState → ChannelState
taken_open message channel =
    if type_in message == 1 then after_failure (cause.Error (number_at 8 2 message) (number_at 10 2 message)) channel
    else if type_in message == 2 then record channel { sent = channel.sent ++ echo_reply message }
    else if type_in message == 19 then after_reply (xid_in message) channel
    else channel

-- a message comes to a session: the first has to be OFPT_HELLO (0)
abbrev pub taken_by : Session → List ℕ → ChannelState → ChannelState
taken_by Waiting message channel = if type_in message == 0 then record channel { session = Open } else after_failure cause.NoHello channel
taken_by Open message channel = taken_open message channel
taken_by (Failed c) message channel = channel

-- a channel after a message came
unfoldable pub after_message : List ℕ → ChannelState → ChannelState
after_message message channel = taken_by channel.session message channel

-- a channel after what stands at the front of its unread bytes was taken from there
abbrev pub after_front : Front → ChannelState → ChannelState
after_front Short channel = channel
after_front (Fault c) channel = after_failure c channel
after_front (Message n) channel = after_message (take n channel.unread) (record channel { unread = drop n channel.unread })

-- a channel after a byte came; a failed session reads nothing
unfoldable pub after_byte : ℕ → ChannelState → ChannelState
after_byte b channel =
    if is_failed channel.session then channel
    else after_front (front_of (channel.unread ++ b ∷ [])) (record channel { unread = channel.unread ++ b ∷ [] })

-- a channel after bytes came, one after the other: so it makes no difference in which pieces they come
abbrev pub after_bytes : List ℕ → ChannelState → ChannelState
after_bytes [] channel = channel
after_bytes (b ∷ bytes) channel = after_bytes bytes (after_byte b channel)

-- a channel after a text was sent that ends with the barrier request of an xid
abbrev pub after_request : List ℕ → ℕ → ChannelState → ChannelState
after_request text xid channel = record channel { sent = channel.sent ++ text; outstanding = Some xid }
