use Rattle.std.proofs.Common.{◌↔◌, List, sym, subst}
use Rattle.std.specs.Prelude.{IsTrue}
use Rattle.net_base.specs.Members.{IsSameSet}
use Rattle.flow_rules.specs.Tables.{rules_at, rules_of_all}
use Rattle.flow_rules.specs.declared.rules.Rule.{Rule}
use Rattle.round_tables.proofs.ends.are_same_at.Goals as goal
use Rattle.flow_rules.proofs.TableLaws.{rules_get}

pub returns : goal.returns
returns c =
    let s = c.args.switch in
    let one = rules_get c.args.tables.now s.0 c.table.result.now c.table.ensures in
    let other = rules_get c.args.others.now s.0 c.table-2.result.now c.table-2.ensures in
    subst (λ (rs : List Rule). IsTrue c.are_same.result ↔ IsSameSet rs (rules_at (rules_of_all c.args.others.now) s)) (sym one)
    (subst (λ (rs : List Rule). IsTrue c.are_same.result ↔ IsSameSet c.table.result.now.rules rs) (sym other) c.are_same.ensures)
