use Rattle.std.proofs.Common.{rules, ◌∙◌}
use Rattle.std.proofs.lemmas.Fn.{always_returns_same}
use Rattle.flow_rules.specs.Order.{key_cmp}
use Rattle.flow_rules.specs.declared.rules.Rule.{Rule}
use Rattle.flow_rules.proofs.ReplaceLaws.{found_in_place, missed_in_place}
use Rattle.flow_rules.proofs.replaces.in_place_of.Goals as goal

pub returns-in-Ok : goal.returns-in-Ok
returns-in-Ok c =
    c.index-others-i.is
    ∙ found_in_place c.args.others.now c.args.rule.now c.in-Ok.i c.index-others-i.result c.requires.distinct c.in-Ok.ensures.bound
    (c.in-Ok.ensures.position (λ (q : Rule). key_cmp q.key c.args.rule.now.key) (always_returns_same _ _ _ (λ a r q called. (search rules, search rules)))
    c.index-others-i.result)

pub returns-in-Err : goal.returns-in-Err
returns-in-Err c =
    missed_in_place c.args.others.now c.args.rule.now c.in-Err.field-0 c.requires.order c.in-Err.ensures.bound
    (c.in-Err.ensures.position (λ (q : Rule). key_cmp q.key c.args.rule.now.key) (always_returns_same _ _ _ (λ a r q called. (search rules, search rules))))
