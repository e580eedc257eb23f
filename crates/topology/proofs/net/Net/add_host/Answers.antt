use Rattle.std.proofs.Common.{ℕ, ◌<◌, List, [], ◌∷◌, ◌++◌, sym, ap, subst, ◌∙◌}
use Rattle.net_base.specs.declared.ids.Stop.{Stop}
use Rattle.topology.proofs.GrowthLaws.{host_kept, host_ends}
use Rattle.topology.proofs.PortLaws.{used_test, used_count}
use Rattle.topology.specs.Ends.{port_ends}
use Rattle.topology.specs.Networks.{IsNetwork}
use Rattle.topology.specs.Seen.{network_of}
use Rattle.topology.specs.declared.net.End.{End}
use Rattle.topology.specs.declared.net.End.TheVariants as at
use Rattle.topology.proofs.net.Net.add_host.Goals as goal

pub put_host-requires-clause-free : goal.put_host-requires-clause-free
put_host-requires-clause-free c = used_test (network_of c.self.inside) c.self.inside.ends c.self.invariant.ends c.args.stop ∙ (rw (← c.self.view_is) at c.requires.free)

pub put_host-requires-clause-room : goal.put_host-requires-clause-room
put_host-requires-clause-room c =
    subst (λ (n : ℕ). n < 64) (sym (used_count (network_of c.self.inside) c.self.inside.ends c.self.invariant.ends c.args.stop.switch)) (rw (← c.self.view_is) at c.requires.room)

pub invariant_of-self-2 : goal.invariant_of-self-2
invariant_of-self-2 c = record {
  network =
      subst (λ (hs : List Stop). IsNetwork (record (network_of c.self.inside) { hosts = hs })) (sym c.in_ok-put_host.ensures.hosts)
      (host_kept (network_of c.self.inside) c.self.invariant.network c.args.stop (rw (← c.self.view_is) at c.requires.port) (rw (← c.self.view_is) at c.requires.free)
      (rw (← c.self.view_is) at c.requires.room));
  ends =
      c.in_ok-put_host.ensures.ends
      ∙ ap (λ (es : List (Stop × End)). es ++ (c.args.stop, at.Host) ∷ []) c.self.invariant.ends
      ∙ host_ends c.self.inside.links.items c.self.inside.hosts.items c.args.stop
      ∙ ap (port_ends c.self.inside.links.items) (sym c.in_ok-put_host.ensures.hosts);
}
