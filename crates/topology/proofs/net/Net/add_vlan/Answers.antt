use Rattle.std.proofs.Common.{List, sym, subst}
use Rattle.net_base.specs.declared.ids.Vlan.{Vlan}
use Rattle.topology.proofs.GrowthLaws.{vlan_kept}
use Rattle.topology.specs.Networks.{IsNetwork}
use Rattle.topology.specs.Seen.{network_of}
use Rattle.topology.proofs.net.Net.add_vlan.Goals as goal

pub invariant_of-self-2 : goal.invariant_of-self-2
invariant_of-self-2 c = record {
  network =
      subst (λ (vs : List Vlan). IsNetwork (record (network_of c.self.inside) { vlans = vs })) (sym c.in_ok-push.ensures.items)
      (vlan_kept (network_of c.self.inside) c.self.invariant.network c.args.vlan (rw (← c.self.view_is) at c.requires.room) c.requires.form (rw (← c.self.view_is) at c.requires.new));
  ends = c.self.invariant.ends;
}
