use Rattle.topology.specs.Networks.{IsVlan}
use Rattle.certificates.proofs.Chains.{AreUpTo}
use Rattle.certificates.proofs.validity.are_labels.Given as goal

abbrev pub invariant-loop-label : goal.invariant-loop-label
invariant-loop-label l = AreUpTo (λ x. IsVlan x.vlan × IsVlan x.user) l.labels l.label-index
