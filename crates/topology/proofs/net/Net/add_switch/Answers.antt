use Rattle.std.proofs.Common.{sym, subst}
use Rattle.topology.proofs.GrowthLaws.{switch_kept}
use Rattle.topology.specs.Named.{Named}
use Rattle.topology.specs.Networks.{IsNetwork}
use Rattle.topology.specs.Seen.{network_of}
use Rattle.topology.proofs.net.Net.add_switch.Goals as goal

pub invariant_of-self-2 : goal.invariant_of-self-2
invariant_of-self-2 c = record {
  network =
      subst (λ (s : Named). IsNetwork (record (network_of c.self.inside) { names = s.names; capacities = s.capacities })) (sym c.in_ok-add.ensures.ok)
      (switch_kept (network_of c.self.inside) c.self.invariant.network c.args.name.now c.args.capacity (rw (← c.self.view_is) at c.requires.room) c.requires.form
      (rw (← c.self.view_is) at c.requires.new) c.requires.capacity);
  ends = c.self.invariant.ends;
}
