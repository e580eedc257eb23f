use Rattle.update_driver.proofs.StartLaws.{ReservedBelow}
use Rattle.update_driver.proofs.starts.reserve_all.Given as goal

abbrev pub invariant-loop-number : goal.invariant-loop-number
invariant-loop-number l = ReservedBelow l.number l.turns l.initial.channels l.channels
