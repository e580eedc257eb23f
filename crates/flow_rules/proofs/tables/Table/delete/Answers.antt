use Rattle.std.proofs.Common.{length, subst, sym, ap, arith}
use Rattle.net_base.specs.Members.{IsIn}
use Rattle.flow_rules.specs.Tables.{TableState, keys_of}
use Rattle.flow_rules.proofs.TableLaws.{table_filter, one_less}
use Rattle.flow_rules.proofs.tables.Table.delete.Goals as goal

pub invariant_of-self : goal.invariant_of-self
invariant_of-self c = rw c.delete_from.ensures.items (record { distinct = table_filter _ c.self.inside.entries.items c.self.invariant.distinct; indexed = tt })

pub returns-clause-spare : goal.returns-clause-spare
returns-clause-spare c =
    let less = one_less c.args.key.now c.self.inside.entries.items c.self.invariant.distinct
    (subst (λ (t : TableState). IsIn c.args.key.now (keys_of t.rules)) (sym c.self.view_is) c.requires.present) in
    let before = c.self.inside.entries.ok in
    let after = c.delete_from.new.rules.ok.0 in
    let items = ap length c.delete_from.ensures.items in
    let capacity = c.delete_from.ensures.capacity in
    let held = ap (λ (t : TableState). t.spare) c.self.view_is in
    omega arith
