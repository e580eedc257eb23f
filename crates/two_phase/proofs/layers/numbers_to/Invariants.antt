use Rattle.std.proofs.Common.{◌≡◌, suc}
use Rattle.net_base.specs.Numbers.{numbers_from}
use Rattle.two_phase.proofs.layers.numbers_to.Given as goal

abbrev pub invariant-loop-number : goal.invariant-loop-number
invariant-loop-number l = l.numbers.items ≡ numbers_from 0 (suc l.number)
