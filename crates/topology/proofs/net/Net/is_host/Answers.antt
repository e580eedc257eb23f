use Rattle.std.proofs.Common.{ap, ◌∙◌}
use Rattle.topology.proofs.PortLaws.{end_test, host_end, host_exactly}
use Rattle.topology.specs.Ends.{is_host_end}
use Rattle.topology.specs.Seen.{network_of}
use Rattle.topology.proofs.net.Net.is_host.Goals as goal

pub returns-clause-value : goal.returns-clause-value
returns-clause-value c =
    rw (← c.self.view_is)
    (c.is_host_end.ensures
    ∙ ap is_host_end (c.end.ensures ∙ end_test (network_of c.self.inside) c.self.inside.ends c.self.invariant.ends c.self.invariant.network c.args.stop)
    ∙ host_end c.args.stop (network_of c.self.inside))

pub returns-clause-ends : goal.returns-clause-ends
returns-clause-ends c =
    rw (← c.self.view_is, c.is_host_end.ensures, c.end.ensures, end_test (network_of c.self.inside) c.self.inside.ends c.self.invariant.ends c.self.invariant.network c.args.stop, host_end c.args.stop (network_of c.self.inside))
    (host_exactly c.args.stop (network_of c.self.inside))
