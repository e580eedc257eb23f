use Rattle.std.proofs.Common.{◌+◌, ◌<◌, List, get_or, set, map, length, sym, subst, arith, ◌∙◌, ap}
use Rattle.net_base.specs.declared.ids.Stop.{Stop}
use Rattle.topology.specs.Ends.{AreCounts}
use Rattle.topology.proofs.PortLaws.{added, port_of, map_added, counted}
use Rattle.topology.proofs.ports.Ports.add.Goals as goal

pub invariant_of-self-2 : goal.invariant_of-self-2
invariant_of-self-2 c =
    let told = c.self.told in
    let at = c.args.stop.switch.0 in
    let counts = c.self.inside.counts in
    let within : at < length counts = omega (arith, c.requires.within) in
    subst (λ (ports : List Stop). AreCounts (set counts at (get_or counts at 0 + 1)) ports)
    (sym (ap (map port_of) (c.in_ok-insert.ensures.entries ∙ added c.self.inside.ends c.args.stop c.args.end (rw (← c.self.view_is) at c.requires.free)) ∙ map_added c.self.inside.ends.entries c.args.stop c.args.end))
    (counted counts (map port_of c.self.inside.ends.entries) c.args.stop c.self.invariant within)

pub returns-clause-ok : goal.returns-clause-ok
returns-clause-ok c = rw (← c.self.view_is) (c.in_ok-insert.ensures.entries ∙ added c.self.inside.ends c.args.stop c.args.end (rw (← c.self.view_is) at c.requires.free))
