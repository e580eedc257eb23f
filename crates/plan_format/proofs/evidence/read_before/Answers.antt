use Rattle.std.proofs.Common.{sym, ◌∙◌}
use Rattle.plan_format.proofs.OrderLaws.{below_more}
use Rattle.plan_format.proofs.evidence.read_before.Goals as goal
use Rattle.net_base.specs.Switches.{most_switches}

pub before_of-requires-clause-few : goal.before_of-requires-clause-few
before_of-requires-clause-few c = below_more _ most_switches c.in_ok-numbers.numbers c.switches.ensures.few (sym c.are_below.ensures ∙ c.if-not-are_below.false)
