-- What holds of every channel.
use Rattle.std.specs.Prelude.{◌≡◌, ◌≤◌, ◌⊎◌, ℕ, ◌==◌, Bool, false, List, [], ◌++◌, length, take, drop, filter, flat_map, None}
use Rattle.std.specs.List.{AllByRecursion, concat}
use Rattle.switch_session.specs.Fronts.{front_of, version_in, type_in, length_in}
use Rattle.switch_session.specs.Channels.{ChannelState, is_failed, after_failure, echo_reply, after_message, after_bytes}
use Rattle.switch_session.specs.declared.fronts.Front.{Front}
use Rattle.switch_session.specs.declared.fronts.Front.TheVariants.{Short, Fault, Message}

-- the session hasn't failed, and all that could be taken was taken
pub record IsReading (channel : ChannelState) : Type 0 where
  pub going : is_failed channel.session ≡ false
  pub short : front_of channel.unread ≡ Short

-- what bytes do to a channel, by what stands at the front of the unread bytes with these behind them: they are kept; the session
-- fails; or the message is taken, and then the rest
abbrev pub TakesFront : List ℕ → ChannelState → Front → Type 0
TakesFront bytes channel Short = after_bytes bytes channel ≡ record channel { unread = channel.unread ++ bytes }
TakesFront bytes channel (Fault c) = after_bytes bytes channel ≡ after_failure c channel
TakesFront bytes channel (Message n) =
    after_bytes bytes channel ≡ after_bytes (drop n (channel.unread ++ bytes)) (after_message (take n (channel.unread ++ bytes)) (record channel { unread = [] }))

-- a whole message: at least a header, and as long as its length field says
pub record IsWhole (message : List ℕ) : Type 0 where
  pub header : 8 ≤ length message
  pub size : length_in message ≡ length message

-- an echo request: a whole message of version 1 and of type OFPT_ECHO_REQUEST (2)
pub record IsEchoRequest (message : List ℕ) : Type 0 where
  pub whole : IsWhole message
  pub version : version_in message ≡ 1
  pub echo : type_in message ≡ 2

-- whether a message is of that type
abbrev pub is_echo : List ℕ → Bool
is_echo message = type_in message == 2

-- bytes, cut from their front into whole messages; the rest stays
pub record AreCut (bytes : List ℕ) (messages : List (List ℕ)) (rest : List ℕ) : Type 0 where
  pub whole : AllByRecursion IsWhole messages
  pub bytes_are : bytes ≡ concat messages ++ rest

-- the echo requests among the messages in bytes that came on a channel, in their order: all of them where its session hasn't failed,
-- so that the rest is what is unread; otherwise those of the messages before it failed
pub record AreRequests (bytes : List ℕ) (channel : ChannelState) (requests : List (List ℕ)) : Type 0 where
  pub messages : List (List ℕ)
  pub rest : List ℕ
  pub cut : AreCut bytes messages rest
  pub left : is_failed channel.session ≡ false → rest ≡ channel.unread
  pub requests_are : requests ≡ filter is_echo messages
  pub each : AllByRecursion IsEchoRequest requests

-- no whole message is left unread on a channel whose session hasn't failed
abbrev pub ReadsAll : ChannelState → Type 0
ReadsAll channel = is_failed channel.session ≡ false → front_of channel.unread ≡ Short

-- the barrier that is outstanding is as before, or answered
abbrev pub KeepsBarrier : ChannelState → ChannelState → Type 0
KeepsBarrier before after = (after.outstanding ≡ before.outstanding) ⊎ (after.outstanding ≡ None)

-- the most that bytes from a switch do to what the controller said: the echo requests in them and in the unread bytes before them are
-- answered, each once and in their order, and maybe the outstanding barrier
pub record OnlyReplies (bytes : List ℕ) (before after : ChannelState) : Type 0 where
  pub requests : List (List ℕ)
  pub came : AreRequests (before.unread ++ bytes) after requests
  pub sent : after.sent ≡ before.sent ++ flat_map echo_reply requests
  pub barrier : KeepsBarrier before after
