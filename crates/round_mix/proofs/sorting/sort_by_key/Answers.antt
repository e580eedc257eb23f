use Rattle.std.proofs.Common.{rules, ◌≡◌}
use Rattle.std.specs.Ordering.{is_lt}
use Rattle.std.proofs.lemmas.List.Sorted.{answers_always}
use Rattle.flow_rules.specs.Order.{key_cmp}
use Rattle.round_mix.specs.declared.MarkedRule.{MarkedRule}
use Rattle.round_mix.proofs.KeyOrderLaws.{key_order_from_sorted, keys_sort}
use Rattle.round_mix.proofs.sorting.sort_by_key.Goals as goal

pub returns-clause-order : goal.returns-clause-order
returns-clause-order c =
    key_order_from_sorted c.sort_unstable_by.new.self.items
    (c.sort_unstable_by.ensures.sorted (λ (x y : MarkedRule). is_lt (key_cmp x.rule.key y.rule.key)) keys_sort
    (answers_always _ (λ a r. is_lt r ≡ is_lt (key_cmp a.0.now.rule.key a.1.0.now.rule.key)) _ (λ f a r g called. search rules)))
