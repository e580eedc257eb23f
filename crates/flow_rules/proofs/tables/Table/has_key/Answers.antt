use Rattle.std.proofs.Common.{◌↔◌, IsTrue, subst}
use Rattle.net_base.specs.Members.{IsIn}
use Rattle.flow_rules.specs.Tables.{TableState, keys_of}
use Rattle.flow_rules.proofs.TableLaws.{key_found}
use Rattle.flow_rules.proofs.tables.Table.has_key.Goals as goal

pub returns : goal.returns
returns c =
    subst (λ (t : TableState). IsTrue c.has_key_among.result ↔ IsIn c.args.key.now (keys_of t.rules)) c.self.view_is
    (rw (c.has_key_among.ensures, c.deref.ensures.value) (key_found c.args.key.now c.self.inside.entries.items))
