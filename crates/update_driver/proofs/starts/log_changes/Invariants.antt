use Rattle.std.proofs.Common.{◌≡◌, ◌≤◌, ◌+◌, ◌++◌, drop, vec_len, vec_capacity}
use Rattle.update_driver.specs.Drivers.{change_events}
use Rattle.update_driver.proofs.starts.log_changes.Given as goal

abbrev pub invariant-loop-number : goal.invariant-loop-number
invariant-loop-number l = record {
  events : l.log.items ++ change_events l.switch l.number (drop l.number l.round) ≡ l.initial.log.items ++ change_events l.switch 0 l.round;
  len : vec_len l.log ≤ vec_len l.initial.log + l.number;
  capacity : vec_capacity l.initial.log ≤ vec_capacity l.log;
}
