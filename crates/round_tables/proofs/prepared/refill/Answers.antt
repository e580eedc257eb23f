use Rattle.std.proofs.Common.{List, length, get_or, ◌<◌, ◌≡◌, sym, subst}
use Rattle.net_base.specs.Members.{IsIn}
use Rattle.flow_rules.specs.Tables.{keys_of}
use Rattle.flow_rules.specs.declared.rules.Rule.{Rule}
use Rattle.round_tables.proofs.TableLaws.{key_fresh}
use Rattle.round_tables.proofs.prepared.refill.Goals as goal

pub insert-requires-clause-absent : goal.insert-requires-clause-absent
insert-requires-clause-absent c =
    let r = c.rule-item.result in
    let i = c.loop-rule.rule-index in
    let same = c.rules-rule-items.ensures.value in
    let less : i < length c.args.source.now.rules = subst (λ (rs : List Rule). i < length rs) same c.loop-rule-test.true in
    let is : r ≡ get_or c.args.source.now.rules i r = subst (λ (rs : List Rule). r ≡ get_or rs i r) same c.rule-item.is in
    subst (λ (rs : List Rule). ¬ IsIn r.key (keys_of rs)) (sym c.loop-rule.invariant.0) (key_fresh c.args.source.now.rules i r c.loop-rule.invariant.2 less is)
