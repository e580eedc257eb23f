use Rattle.std.proofs.Common.{ℕ, ◌<◌, List, [], ◌∷◌, ◌++◌, sym, ap, subst, ◌∙◌}
use Rattle.net_base.specs.declared.ids.Stop.{Stop}
use Rattle.topology.proofs.GrowthLaws.{link_kept, link_ends}
use Rattle.topology.proofs.PortLaws.{used_test, used_beside, used_count, count_beside}
use Rattle.topology.specs.Ends.{port_ends}
use Rattle.topology.specs.Networks.{IsNetwork}
use Rattle.topology.specs.Seen.{network_of}
use Rattle.topology.specs.declared.net.Link.{Link}
use Rattle.topology.specs.declared.net.End.{End}
use Rattle.topology.specs.declared.net.End.TheVariants as at
use Rattle.topology.proofs.net.Net.add_link.Goals as goal

pub put_link-requires-clause-a_free : goal.put_link-requires-clause-a_free
put_link-requires-clause-a_free c = used_test (network_of c.self.inside) c.self.inside.ends c.self.invariant.ends c.args.a ∙ (rw (← c.self.view_is) at c.requires.a_free)

pub put_link-requires-clause-b_free : goal.put_link-requires-clause-b_free
put_link-requires-clause-b_free c =
    used_beside (network_of c.self.inside) c.self.inside.ends c.self.invariant.ends c.args.a c.args.b ∙ (rw (← c.self.view_is) at c.requires.b_free)

pub put_link-requires-clause-a_room : goal.put_link-requires-clause-a_room
put_link-requires-clause-a_room c =
    subst (λ (n : ℕ). n < 64) (sym (used_count (network_of c.self.inside) c.self.inside.ends c.self.invariant.ends c.args.a.switch)) (rw (← c.self.view_is) at c.requires.a_room)

pub put_link-requires-clause-b_room : goal.put_link-requires-clause-b_room
put_link-requires-clause-b_room c =
    subst (λ (n : ℕ). n < 64) (sym (count_beside (network_of c.self.inside) c.self.inside.ends c.self.invariant.ends c.args.a c.args.b.switch)) (rw (← c.self.view_is) at c.requires.b_room)

pub invariant_of-self-2 : goal.invariant_of-self-2
invariant_of-self-2 c = record {
  network =
      subst (λ (ls : List Link). IsNetwork (record (network_of c.self.inside) { links = ls })) (sym c.in_ok-put_link.ensures.links)
      (link_kept (network_of c.self.inside) c.self.invariant.network c.args.a c.args.b (rw (← c.self.view_is) at c.requires.ports.0) (rw (← c.self.view_is) at c.requires.ports.1)
      (rw (← c.self.view_is) at c.requires.a_free) (rw (← c.self.view_is) at c.requires.b_free) (rw (← c.self.view_is) at c.requires.a_room) (rw (← c.self.view_is) at c.requires.b_room));
  ends =
      c.in_ok-put_link.ensures.ends
      ∙ ap (λ (es : List (Stop × End)). (es ++ (c.args.a, at.Link c.args.b.switch c.args.b.port) ∷ []) ++ (c.args.b, at.Link c.args.a.switch c.args.a.port) ∷ []) c.self.invariant.ends
      ∙ link_ends c.self.inside.links.items c.self.inside.hosts.items c.args.a c.args.b (rw (← c.self.view_is) at c.requires.first)
      ∙ ap (λ (ls : List Link). port_ends ls c.self.inside.hosts.items) (sym c.in_ok-put_link.ensures.links);
}
