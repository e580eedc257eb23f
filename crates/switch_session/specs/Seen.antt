-- What contracts see of a channel.
use Rattle.std.specs.Prelude.{◌≡◌, ℕ, ◌+◌, ◌≤◌, List, [], length, drop, vec_len, vec_capacity}
use Rattle.switch_session.specs.Fronts.{front_of}
use Rattle.switch_session.specs.Channels.{ChannelState, after_bytes}
use Rattle.switch_session.specs.declared.fronts.Front.TheVariants.{Short}
use Rattle.switch_session.specs.declared.channels.Talk.{Talk}

-- a channel, and for how many more bytes that are sent there is room
pub record ChannelView : Type 0 where
  pub state : ChannelState
  pub room : ℕ

-- what was said so far, beside the bytes that aren't read
abbrev pub channel_of : Talk → List ℕ → ChannelState
channel_of talk unread = record { session = talk.session; unread = unread; sent = talk.sent.items; outstanding = talk.outstanding }

-- no more room is used than for so many bytes
abbrev pub UsesRoom : ℕ → Talk → Talk → Type 0
UsesRoom count old new = vec_len new.sent + vec_capacity old.sent ≤ vec_len old.sent + count + vec_capacity new.sent

-- the bytes are left, since more has to come first
pub record IsLeft (old new : Talk) (bytes : List ℕ) : Type 0 where
  pub short : front_of bytes ≡ Short
  pub state : after_bytes bytes (channel_of old []) ≡ channel_of new bytes

-- so many bytes are done with
pub record IsTaken (count : ℕ) (old new : Talk) (bytes : List ℕ) : Type 0 where
  pub some : 1 ≤ count
  pub within : count ≤ length bytes
  pub state : after_bytes bytes (channel_of old []) ≡ after_bytes (drop count bytes) (channel_of new [])
  pub room : UsesRoom count old new
