use Rattle.std.proofs.Common.{◌∙◌}
use Rattle.topology.proofs.PortLaws.{used_count, count_few}
use Rattle.topology.specs.Seen.{network_of}
use Rattle.topology.proofs.net.Net.count_on.Goals as goal

pub returns-clause-value : goal.returns-clause-value
returns-clause-value c = rw (← c.self.view_is) (c.count_on.ensures.value ∙ used_count (network_of c.self.inside) c.self.inside.ends c.self.invariant.ends c.args.switch)

pub returns-clause-few : goal.returns-clause-few
returns-clause-few c =
    rw (c.count_on.ensures.value, used_count (network_of c.self.inside) c.self.inside.ends c.self.invariant.ends c.args.switch)
    (count_few (network_of c.self.inside) c.self.invariant.network c.args.switch)
