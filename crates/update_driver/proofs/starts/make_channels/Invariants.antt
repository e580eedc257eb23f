use Rattle.std.proofs.Common.{◌≡◌, replicate}
use Rattle.switch_session.specs.Channels.{first_channel}
use Rattle.update_driver.specs.Inside.{states_of}
use Rattle.update_driver.proofs.starts.make_channels.Given as goal

abbrev pub invariant-loop-number : goal.invariant-loop-number
invariant-loop-number l = states_of l.channels.items ≡ replicate l._number first_channel
