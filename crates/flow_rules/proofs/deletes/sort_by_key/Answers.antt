use Rattle.std.proofs.Common.{rules, ◌≡◌}
use Rattle.std.specs.Ordering.{is_lt}
use Rattle.std.proofs.lemmas.List.Sorted.{answers_always, ranks_by}
use Rattle.flow_rules.specs.Order.{key_cmp}
use Rattle.flow_rules.specs.declared.rules.Rule.{Rule}
use Rattle.flow_rules.proofs.OrderLaws.{key_total}
use Rattle.flow_rules.proofs.deletes.sort_by_key.Goals as goal

pub returns-clause-order : goal.returns-clause-order
returns-clause-order c =
    c.sort_unstable_by.ensures.sorted (λ (x y : Rule). is_lt (key_cmp x.key y.key)) (ranks_by key_total (λ (r : Rule). r.key))
    (answers_always _ (λ a r. is_lt r ≡ is_lt (key_cmp a.0.now.key a.1.0.now.key)) _ (λ f a r g called. search rules))
