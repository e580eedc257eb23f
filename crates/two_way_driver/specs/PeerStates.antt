-- What a driver keeps of one switch.
use Rattle.std.specs.Prelude.{ℕ, Bool, Option}
use Rattle.switch_session.specs.Channels.{ChannelState}

-- the channel; the barrier request that was sent on this session behind the outstanding one; that of the running round, in the way it goes, that isn't answered;
-- and whether the switch is dead
pub record PeerState : Type 0 where
  pub channel : ChannelState
  pub behind : Option ℕ
  pub asked : Option ℕ
  pub is_dead : Bool
