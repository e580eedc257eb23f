use Rattle.certificates.specs.Valid.{IsPickBefore}
use Rattle.certificates.proofs.Chains.{IsChainUpTo}
use Rattle.certificates.proofs.validity.are_ascending.Given as goal

abbrev pub invariant-loop-k : goal.invariant-loop-k
invariant-loop-k l = IsChainUpTo IsPickBefore l.picks l.k
