use Rattle.std.proofs.Common.{◌≡◌, ◌+◌, ◌-◌, ◌≤◌, [], length, drop, vec_len, vec_capacity}
use Rattle.switch_session.specs.Channels.{after_bytes}
use Rattle.switch_session.specs.Seen.{channel_of}
use Rattle.switch_session.proofs.channels.Talk.take_all.Given as goal

abbrev pub invariant-loop-count : goal.invariant-loop-count
invariant-loop-count l = record {
  within : l.at ≤ length l.bytes;
  room : vec_len l.self.sent + length l.bytes ≤ vec_capacity l.self.sent + l.at;
  state : after_bytes l.bytes (channel_of l.initial.self []) ≡ after_bytes (drop l.at l.bytes) (channel_of l.self []);
}

abbrev pub decreases-loop-count : goal.decreases-loop-count
decreases-loop-count l = length l.bytes - l.at
