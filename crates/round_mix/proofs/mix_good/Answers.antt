use Rattle.std.proofs.Common.{List, ◌∙◌, ap}
use Rattle.std.proofs.lemmas.Bool.{both_ways}
use Rattle.flow_rules.specs.declared.rules.Rule.{Rule}
use Rattle.round_mix.specs.Marks.{marked_rules}
use Rattle.round_mix.proofs.ClearLaws.{prepared_from_free, alone_from_sorted}
use Rattle.round_mix.proofs.KeyOrderLaws.{falling_from_key_order}
use Rattle.round_mix.proofs.UnclearLaws.{unclear_from_marks}
use Rattle.round_mix.proofs.mix_good.Goals as goal

pub returns-clause-yes : goal.returns-clause-yes
returns-clause-yes c h =
    prepared_from_free c.args.table.now.rules c.args.changes.now c.fill.new.marks.items c.sort_apart.new.marks.items c.rules.ensures.distinct c.requires.good
    (c.fill.ensures.items ∙ ap (λ (rs : List Rule). marked_rules rs c.args.changes.now) c.rules.ensures.value)
    (alone_from_sorted c.fill.new.marks.items c.sort_apart.new.marks.items c.sort_apart.ensures.permutation (c.sort_apart.ensures.apart.0 h).alone)
    c.sort_apart.ensures.permutation (falling_from_key_order c.sort_apart.new.marks.items c.sort_apart.ensures.order)

pub returns-clause-no : goal.returns-clause-no
returns-clause-no c h =
    unclear_from_marks c.args.table.now.rules c.args.changes.now c.args.changes.now c.fill.new.marks.items c.sort_apart.new.marks.items c.rules.ensures.distinct c.requires.good
    (c.fill.ensures.items ∙ ap (λ (rs : List Rule). marked_rules rs c.args.changes.now) c.rules.ensures.value)
    c.sort_apart.ensures.permutation (λ apart. both_ways c.sort_apart.result h (c.sort_apart.ensures.apart.1 apart))
