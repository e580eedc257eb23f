use Rattle.std.proofs.Common.{rules, ◌≡◌}
use Rattle.std.specs.Ordering.{is_lt}
use Rattle.std.proofs.lemmas.List.Sorted.{answers_always}
use Rattle.flow_rules.specs.Order.{key_cmp}
use Rattle.flow_rules.specs.declared.rules.Rule.{Rule}
use Rattle.table_difference.proofs.OrderLaws.{order_from_sorted, ascending_from_order, table_moved, rules_sort}
use Rattle.table_difference.specs.KeyOrder.{AreInKeyOrder}
use Rattle.table_difference.proofs.sorting.sort_by_key.Goals as goal
use Rattle.table_difference.proofs.sorting.sort_by_key.Goals.{After-sort_unstable_by}

in_order : (c : After-sort_unstable_by) → AreInKeyOrder c.sort_unstable_by.new.self.items
in_order c =
    order_from_sorted c.sort_unstable_by.new.self.items
    (c.sort_unstable_by.ensures.sorted (λ (x y : Rule). is_lt (key_cmp x.key y.key)) rules_sort
    (answers_always _ (λ a r. is_lt r ≡ is_lt (key_cmp a.0.now.key a.1.0.now.key)) _ (λ f a r g called. search rules)))

pub returns-clause-order : goal.returns-clause-order
returns-clause-order c = in_order (goal.at.returns-clause-order c).After-sort_unstable_by

pub returns-clause-ascending : goal.returns-clause-ascending
returns-clause-ascending c table =
    ascending_from_order c.sort_unstable_by.new.self.items (in_order (goal.at.returns-clause-ascending c).After-sort_unstable_by)
    (table_moved c.args.rules.now.items c.sort_unstable_by.new.self.items c.sort_unstable_by.ensures.permutation table)
