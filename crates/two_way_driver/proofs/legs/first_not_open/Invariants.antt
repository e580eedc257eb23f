use Rattle.std.proofs.Common.{◌≡◌, ◌-◌, not, get_or}
use Rattle.round_messages.specs.Requests.{is_changed}
use Rattle.two_way_driver.specs.Peers.{first_peer}
use Rattle.two_way_driver.specs.Drivers.{is_open_or_dead}
use Rattle.round_messages.proofs.Marking.{found_from}
use Rattle.two_way_driver.proofs.legs.first_not_open.Given as goal

abbrev pub invariant-loop-number : goal.invariant-loop-number
invariant-loop-number l =
    found_from (λ s. not (is_open_or_dead (get_or l.peers s.0 first_peer))) (is_changed l.round) 0 l.number-end
    ≡ found_from (λ s. not (is_open_or_dead (get_or l.peers s.0 first_peer))) (is_changed l.round) l.number (l.number-end - l.number)
