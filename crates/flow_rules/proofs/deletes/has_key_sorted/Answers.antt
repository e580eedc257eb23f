use Rattle.std.proofs.Common.{rules, ◌∙◌}
use Rattle.std.proofs.lemmas.Fn.{always_returns_same}
use Rattle.flow_rules.specs.Order.{key_cmp}
use Rattle.flow_rules.specs.declared.rules.Rule.{Rule}
use Rattle.flow_rules.proofs.DeleteLaws.{search_tells}
use Rattle.flow_rules.proofs.deletes.has_key_sorted.Goals as goal

pub returns : goal.returns
returns c =
    c.is_ok.ensures.value
    ∙ search_tells c.args.rules.now c.args.key.now c.binary_search_by.result c.requires c.binary_search_by.ensures.bound
    (c.binary_search_by.ensures.position (λ (q : Rule). key_cmp q.key c.args.key.now) (always_returns_same _ _ _ (λ a r q called. (search rules, search rules))))
