use Rattle.std.proofs.Common.{◌<◌}
use Rattle.certificates.proofs.Chains.{AreUpTo}
use Rattle.certificates.proofs.validity.are_below.Given as goal

abbrev pub invariant-loop-number : goal.invariant-loop-number
invariant-loop-number l = AreUpTo (λ i. i < l.count) l.numbers l.number-index
