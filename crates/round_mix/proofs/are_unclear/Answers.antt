use Rattle.std.proofs.Common.{List, [], map, ◌∙◌, ap}
use Rattle.std.proofs.lemmas.Bool.{not-true, both_ways}
use Rattle.flow_rules.specs.declared.rules.Rule.{Rule}
use Rattle.round_mix.specs.Marks.{all_rules, marked_rule}
use Rattle.round_mix.proofs.UnclearLaws.{unclear_from_marks}
use Rattle.round_mix.proofs.are_unclear.Goals as goal

pub returns-clause-yes : goal.returns-clause-yes
returns-clause-yes c h =
    unclear_from_marks c.args.table.now.rules c.args.changes.now [] c.fill.new.marks.items c.sort_apart.new.marks.items c.rules.ensures.distinct c.requires.good
    (c.fill.ensures.items ∙ ap (λ (rs : List Rule). map (marked_rule []) (all_rules rs c.args.changes.now)) c.rules.ensures.value)
    c.sort_apart.ensures.permutation (λ apart. both_ways c.sort_apart.result (not-true c.sort_apart.result h) (c.sort_apart.ensures.apart.1 apart))
