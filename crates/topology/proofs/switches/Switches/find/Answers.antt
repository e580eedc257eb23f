use Rattle.std.proofs.Common.{sym, ◌∙◌}
use Rattle.topology.proofs.NamedLaws.{found_named}
use Rattle.topology.proofs.switches.Switches.find.Goals as goal

pub returns-in_err-number-clause-value : goal.returns-in_err-number-clause-value
returns-in_err-number-clause-value c = rw (← c.self.view_is, c.from_residual.ensures) (sym c.in_err-number.was ∙ c.get_index_of.ensures.index ∙ found_named c.self.inside.capacities c.args.name.now)

pub returns-clause-value : goal.returns-clause-value
returns-clause-value c = rw (← c.self.view_is) (sym c.in_ok-number.was ∙ c.get_index_of.ensures.index ∙ found_named c.self.inside.capacities c.args.name.now)
