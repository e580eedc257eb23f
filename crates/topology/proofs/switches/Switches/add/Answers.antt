use Rattle.topology.proofs.NamedLaws.{added_named}
use Rattle.topology.proofs.switches.Switches.add.Goals as goal

pub returns-clause-ok : goal.returns-clause-ok
returns-clause-ok c =
    rw (← c.self.view_is)
    (added_named c.self.inside.capacities c.insert.new.self c.in_ok-from_str.field-0 c.args.capacity c.args.name.now c.in_ok-from_str.ensures.ok
    (rw (← c.self.view_is) at c.requires.new) c.in_ok-insert.ensures.entries)
