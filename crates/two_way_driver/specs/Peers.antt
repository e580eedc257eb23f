-- One switch: what comes of a byte from it, and its barrier requests, which it answers in the order in which they were sent.
use Rattle.std.specs.Prelude.{ℕ, true, false, ◌&&◌, not, nat_lt, if◌then◌else◌, [], length, drop, Option, Some, None, is_some, is_none}
use Rattle.std.specs.Option.{option_map_or}
use Rattle.switch_session.specs.Channels.{ChannelState, first_channel, hello, is_failed, is_open, after_byte, after_request}
use Rattle.switch_session.specs.declared.Session.{Session}
use Rattle.switch_session.specs.declared.Session.TheVariants.{Waiting, Open, Failed}
use Rattle.two_way_driver.specs.PeerStates.{PeerState}
use Rattle.two_way_driver.specs.declared.peers.ByteOutcome.{ByteOutcome}
use Rattle.two_way_driver.specs.declared.peers.ByteOutcome.TheVariants.{Nothing, Opened, Answered, Replied, Broke}

-- a switch at the beginning
abbrev pub first_peer : PeerState
first_peer = record { channel = first_channel; behind = None; asked = None; is_dead = false }

-- a channel that is open, with nothing unread, of which nothing that was sent is kept but HELLO
abbrev pub opened_anew : Option ℕ → ChannelState
opened_anew outstanding = record { session = Open; unread = []; sent = hello; outstanding = outstanding }

-- the failure of a session, if it failed
abbrev pub failure_in : Session → ByteOutcome
failure_in Waiting = Nothing
failure_in Open = Nothing
failure_in (Failed c) = Broke c

-- what came of a byte to a channel with this session, outstanding barrier request and number of bytes sent
unfoldable pub heard_of : Session → Option ℕ → ℕ → ChannelState → ByteOutcome
heard_of session outstanding sent after =
    if is_some outstanding && is_none after.outstanding then Answered
    else if is_open after.session && not (is_open session) then Opened
    else if nat_lt sent (length after.sent) then Replied (drop sent after.sent)
    else if is_failed session then Nothing
    else failure_in after.session

abbrev pub heard_by : ChannelState → ChannelState → ByteOutcome
heard_by before after = heard_of before.session before.outstanding (length before.sent) after

-- the channel that is kept behind a byte: once an echo request was replied to, the reply is forgotten
abbrev pub kept_of : ChannelState → ChannelState → ChannelState
kept_of before after = if nat_lt (length before.sent) (length after.sent) then opened_anew after.outstanding else after

-- a switch after a byte came from it
unfoldable pub peer_after : ℕ → PeerState → PeerState
peer_after b p = record p { channel = kept_of p.channel (after_byte b p.channel) }

-- a barrier request is sent on an open session: it is outstanding, or stands behind the one that is
abbrev pub queued_peer : ℕ → PeerState → PeerState
queued_peer x p = if is_some p.channel.outstanding then record p { behind = Some x } else record p { channel = after_request [] x p.channel }

-- a barrier request of the running round waits for its answer; on an open session it is sent
unfoldable pub asks : ℕ → PeerState → PeerState
asks x p = if is_open p.channel.session then queued_peer x (record p { asked = Some x }) else record p { asked = Some x }

-- the session was just opened, so nothing is outstanding on it: the barrier request is sent again
abbrev pub asks_again : ℕ → PeerState → PeerState
asks_again x p = record p { channel = after_request [] x p.channel; behind = None }

-- the outstanding barrier request was answered: the one behind it is outstanding now, or it was the last one
unfoldable pub answers : PeerState → PeerState
answers p = option_map_or (λ x. record p { channel = after_request [] x p.channel; behind = None }) p.behind (record p { asked = None })

-- the session waits for HELLO again
abbrev pub reopened_peer : PeerState → PeerState
reopened_peer p = record p { channel = first_channel; behind = None; is_dead = false }

-- the switch is dead: nothing was sent to it that counts, and nothing comes from it
abbrev pub dead_peer : PeerState → PeerState
dead_peer p = record p { channel = first_channel; behind = None; is_dead = true }

-- of a round that is settled nothing is asked of a dead switch any more
abbrev pub settled_peer : PeerState → PeerState
settled_peer p = if p.is_dead then record p { asked = None } else p
