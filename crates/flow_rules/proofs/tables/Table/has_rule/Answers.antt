use Rattle.std.proofs.Common.{◌↔◌, IsTrue, subst}
use Rattle.net_base.specs.Members.{IsIn}
use Rattle.flow_rules.specs.Tables.{TableState}
use Rattle.flow_rules.proofs.TableLaws.{rule_found}
use Rattle.flow_rules.proofs.tables.Table.has_rule.Goals as goal

pub returns : goal.returns
returns c =
    subst (λ (t : TableState). IsTrue c.has_rule_among.result ↔ IsIn c.args.rule.now t.rules) c.self.view_is
    (rw (c.has_rule_among.ensures, c.deref.ensures.value) (rule_found c.args.rule.now c.self.inside.entries.items))
