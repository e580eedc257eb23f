use Rattle.std.proofs.Common.{◌<◌}
use Rattle.certificates.proofs.Chains.{IsChainUpTo}
use Rattle.certificates.proofs.validity.are_rounds_ascending.Given as goal

abbrev pub invariant-loop-k : goal.invariant-loop-k
invariant-loop-k l = IsChainUpTo (λ p q. p.round < q.round) l.picks l.k
