use Rattle.std.proofs.Common.{arith}
use Rattle.certificates.specs.Valid.{IsVlanBefore}
use Rattle.certificates.specs.declared.Label.{Label}
use Rattle.certificates.proofs.Chains.{granted, chain_from, chain_more, chain_refused}
use Rattle.certificates.proofs.validity.are_vlans_ascending.Goals as goal

pub returns-then-not-is_vlan_before : goal.returns-then-not-is_vlan_before
returns-then-not-is_vlan_before c = chain_refused (λ (a b : Label). IsVlanBefore a.vlan b.vlan) c.args.labels.now c.loop-k.k _ c.is_vlan_before.result c.loop-k.auto.k c.loop-k-test.true c.if-not-is_vlan_before.true c.is_vlan_before.ensures

pub loop-k-preserved : goal.loop-k-preserved
loop-k-preserved c = chain_more (λ (a b : Label). IsVlanBefore a.vlan b.vlan) c.args.labels.now c.loop-k.k _ c.loop-k.auto.k c.loop-k-test.true (c.is_vlan_before.ensures.0 c.if-not-is_vlan_before.false) c.loop-k.invariant

pub returns : goal.returns
returns c = granted (chain_from (λ (a b : Label). IsVlanBefore a.vlan b.vlan) c.args.labels.now (λ k d lt. c.loop-k.invariant k d (omega arith)))
