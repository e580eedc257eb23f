use Rattle.std.proofs.Common.{◌∙◌}
use Rattle.topology.proofs.PortLaws.{end_test}
use Rattle.topology.specs.Seen.{network_of}
use Rattle.topology.proofs.net.Net.end.Goals as goal

pub returns : goal.returns
returns c =
    rw (← c.self.view_is)
    (c.end.ensures ∙ end_test (network_of c.self.inside) c.self.inside.ends c.self.invariant.ends c.self.invariant.network (record { switch = c.args.s; port = c.args.p }))
