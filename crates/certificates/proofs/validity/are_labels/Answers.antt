use Rattle.std.proofs.Common.{arith}
use Rattle.topology.specs.Networks.{IsVlan}
use Rattle.certificates.specs.declared.Label.{Label}
use Rattle.certificates.proofs.Chains.{granted, all_from}
use Rattle.certificates.proofs.validity.are_labels.Goals as goal

pub returns : goal.returns
returns c = let past = c.loop-label-test.false in granted (all_from (λ (x : Label). IsVlan x.vlan × IsVlan x.user) c.args.labels.now (λ k d lt. c.loop-label.invariant k d (omega arith)))
