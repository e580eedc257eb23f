use Rattle.std.proofs.Common.{◌≡◌, ◌-◌, not, length, get_or}
use Rattle.net_base.specs.Switches.{has}
use Rattle.switch_session.specs.Channels.{first_channel, is_open}
use Rattle.update_driver.specs.Inside.{states_of}
use Rattle.round_messages.proofs.Marking.{found_from}
use Rattle.update_driver.proofs.starts.first_not_open.Given as goal

abbrev pub invariant-loop-number : goal.invariant-loop-number
invariant-loop-number l =
    found_from (λ s. not (is_open (get_or (states_of l.channels) s.0 first_channel).session)) (has l.changed) 0 (length l.channels)
    ≡ found_from (λ s. not (is_open (get_or (states_of l.channels) s.0 first_channel).session)) (has l.changed) l.number (length l.channels - l.number)
