use Rattle.std.proofs.Common.{List, [], map, ◌∙◌, ap}
use Rattle.flow_rules.specs.declared.rules.Rule.{Rule}
use Rattle.round_mix.specs.Marks.{all_rules, marked_rule}
use Rattle.round_mix.proofs.KeyOrderLaws.{falling_from_key_order}
use Rattle.round_mix.proofs.KeyedLaws.{sure_moved, prepared_by_keys}
use Rattle.round_mix.proofs.named.mix_by_key.Goals as goal

pub put_marks-requires-clause-sure : goal.put_marks-requires-clause-sure
put_marks-requires-clause-sure c =
    sure_moved (all_rules c.rules.result.now c.args.changes.now) c.fill.new.marks.items c.sort_apart.new.marks.items c.fill.ensures.items
    c.sort_apart.ensures.permutation

pub put_marks-requires-clause-distinct : goal.put_marks-requires-clause-distinct
put_marks-requires-clause-distinct c = (c.sort_apart.ensures.apart.0 c.if-not-sort_apart.false).distinct

pub returns-clause-prepared : goal.returns-clause-prepared
returns-clause-prepared c h =
    prepared_by_keys c.args.table.now.rules c.args.changes.now c.fill.new.marks.items c.sort_apart.new.marks.items c.put_marks.new.marks.items c.rules.ensures.distinct
    (c.fill.ensures.items ∙ ap (λ (rs : List Rule). map (marked_rule []) (all_rules rs c.args.changes.now)) c.rules.ensures.value)
    c.sort_apart.ensures.permutation
    (falling_from_key_order c.sort_apart.new.marks.items c.sort_apart.ensures.order)
    (c.sort_apart.ensures.apart.0 c.if-not-sort_apart.false)
    (c.put_marks.ensures.marked h)
