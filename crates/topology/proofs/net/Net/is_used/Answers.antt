use Rattle.std.proofs.Common.{◌∙◌}
use Rattle.topology.proofs.PortLaws.{used_test, used_exactly, used_end}
use Rattle.topology.specs.Seen.{network_of}
use Rattle.topology.proofs.net.Net.is_used.Goals as goal

pub returns-clause-value : goal.returns-clause-value
returns-clause-value c = rw (← c.self.view_is) (c.contains.ensures ∙ used_test (network_of c.self.inside) c.self.inside.ends c.self.invariant.ends (record { switch = c.args.s; port = c.args.p }))

pub returns-clause-meaning : goal.returns-clause-meaning
returns-clause-meaning c =
    rw (← c.self.view_is, c.contains.ensures, used_test (network_of c.self.inside) c.self.inside.ends c.self.invariant.ends (record { switch = c.args.s; port = c.args.p }))
    (used_exactly (record { switch = c.args.s; port = c.args.p }) (network_of c.self.inside))

pub returns-clause-ends : goal.returns-clause-ends
returns-clause-ends c = used_end (record { switch = c.args.s; port = c.args.p }) c.args.self.now
