use Rattle.std.proofs.Common.{◌<◌, length, arith}
use Rattle.topology.proofs.PortLaws.{both_added, both_counted}
use Rattle.topology.proofs.ports.Ports.add_both.Goals as goal

pub invariant_of-self-2 : goal.invariant_of-self-2
invariant_of-self-2 c =
    let told = c.self.told in
    let counts = c.self.inside.counts in
    let a_within : c.args.a.switch.0 < length counts = omega (arith, c.requires.within) in
    let b_within : c.args.b.switch.0 < length counts = omega (arith, c.requires.within) in
    both_counted counts c.self.inside.ends.entries c.insert-2.new.self.entries c.args.a c.args.b c.args.at_a c.args.at_b c.self.invariant a_within b_within
    (both_added c.reserve.new.self c.insert.new.self c.self.inside.ends.entries c.insert-2.new.self.entries c.args.a c.args.b c.args.at_a c.args.at_b c.in_ok-reserve.ensures.entries
    c.in_ok-insert.ensures.entries c.in_ok-insert-2.ensures.entries (rw (← c.self.view_is) at c.requires.a_free) (rw (← c.self.view_is) at c.requires.b_free))

pub returns-clause-ok : goal.returns-clause-ok
returns-clause-ok c =
    rw (← c.self.view_is)
    (both_added c.reserve.new.self c.insert.new.self c.self.inside.ends.entries c.insert-2.new.self.entries c.args.a c.args.b c.args.at_a c.args.at_b c.in_ok-reserve.ensures.entries
    c.in_ok-insert.ensures.entries c.in_ok-insert-2.ensures.entries (rw (← c.self.view_is) at c.requires.a_free) (rw (← c.self.view_is) at c.requires.b_free))
