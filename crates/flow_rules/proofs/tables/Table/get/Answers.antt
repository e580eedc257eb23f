use Rattle.std.proofs.Common.{◌≡◌, subst, sym, IfSome}
use Rattle.std.specs.Prelude.{Option, Some, None}
use Rattle.net_base.specs.Members.{IsIn}
use Rattle.flow_rules.specs.Tables.{TableState, action_of}
use Rattle.flow_rules.specs.declared.rules.Action.{Action}
use Rattle.flow_rules.specs.declared.rules.Key.{Key}
use Rattle.flow_rules.specs.declared.rules.Rule.{Rule}
use Rattle.flow_rules.proofs.TableLaws.{action_held, action_none}
use Rattle.flow_rules.proofs.tables.Table.get.Goals as goal

found_held : (o : Option Action) (k : Key) (t : TableState) → o ≡ action_of k t.rules → IfSome o (λ a. let r : Rule = record { key = k; action = a } in IsIn r t.rules)
found_held (Some a) k t e = action_held k t.rules a (sym e)
found_held None k t e = tt

pub returns-clause-value : goal.returns-clause-value
returns-clause-value c = subst (λ (t : TableState). c.action_among.result ≡ action_of c.args.key.now t.rules) c.self.view_is (rw (← c.deref.ensures.value) c.action_among.ensures)

pub returns-clause-found : goal.returns-clause-found
returns-clause-found c = found_held c.action_among.result c.args.key.now c.args.self.now (returns-clause-value c)

pub returns-clause-none : goal.returns-clause-none
returns-clause-none c = rw (returns-clause-value c) (action_none c.args.key.now c.args.self.now.rules)
