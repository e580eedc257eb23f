use Rattle.std.proofs.Common.{List, [], map, refl, subst}
use Rattle.net_base.specs.Members.{IsDistinct}
use Rattle.flow_rules.specs.Tables.{keys_of}
use Rattle.round_mix.specs.Marks.{all_rules, marked_rule, rules_of}
use Rattle.round_mix.specs.declared.MarkedRule.{MarkedRule}
use Rattle.round_mix.proofs.KeyedLaws.{sure_moved, moved_rules, good_by_keys}
use Rattle.round_mix.proofs.leading.are_good.Goals as goal

pub put_marks-requires-clause-sure : goal.put_marks-requires-clause-sure
put_marks-requires-clause-sure c =
    let all = all_rules c.args.table.now.rules c.args.changes.now in
    sure_moved all (map (marked_rule []) all) c.fill_sorted.new.marks.items refl c.fill_sorted.ensures.sorted.moved

pub returns-then-are_rising-clause-good : goal.returns-then-are_rising-clause-good
returns-then-are_rising-clause-good c h =
    let all = all_rules c.args.table.now.rules c.args.changes.now in
    let sorted = c.fill_sorted.new.marks.items in
    good_by_keys c.args.table.now.rules c.args.changes.now sorted c.put_marks.new.marks.items
    (moved_rules all (map (marked_rule []) all) sorted refl c.fill_sorted.ensures.sorted.moved)
    (subst (λ (ms : List MarkedRule). IsDistinct (keys_of (rules_of ms))) c.deref.ensures.value (c.are_rising.ensures c.if-are_rising.true))
    (c.put_marks.ensures.marked h)
