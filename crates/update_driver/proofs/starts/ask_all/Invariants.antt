use Rattle.update_driver.proofs.StartLaws.{ToldBelow}
use Rattle.update_driver.proofs.starts.ask_all.Given as goal

abbrev pub invariant-loop-number : goal.invariant-loop-number
invariant-loop-number l = ToldBelow l.number l.turns l.initial.channels l.channels
