use Rattle.std.proofs.Common.{◌≡◌, ◌++◌, ◌∷◌, [], rules, subst, sym}
use Rattle.net_base.specs.Members.{IsIn}
use Rattle.flow_rules.specs.Tables.{TableState, keys_of}
use Rattle.flow_rules.proofs.TableLaws.{table_push}
use Rattle.flow_rules.proofs.tables.Table.insert.Goals as goal

pub invariant_of-self : goal.invariant_of-self
invariant_of-self c =
    let e : c.push_reserved.new.self.items ≡ c.self.inside.entries.items ++ c.args.rule ∷ [] = search rules in
    rw e (record {
      distinct = table_push c.self.inside.entries.items c.args.rule c.self.invariant.distinct
          (subst (λ (t : TableState). ¬ IsIn c.args.rule.key (keys_of t.rules)) (sym c.self.view_is) c.requires.absent);
      indexed = tt;
    })
