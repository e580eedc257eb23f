use Rattle.certificates.specs.Valid.{IsVlanBefore}
use Rattle.certificates.proofs.Chains.{IsChainUpTo}
use Rattle.certificates.proofs.validity.are_vlans_ascending.Given as goal

abbrev pub invariant-loop-k : goal.invariant-loop-k
invariant-loop-k l = IsChainUpTo (λ a b. IsVlanBefore a.vlan b.vlan) l.labels l.k
