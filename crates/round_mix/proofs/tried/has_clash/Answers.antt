use Rattle.std.proofs.Common.{List, ◌∙◌, ap}
use Rattle.round_mix.specs.Tried.{clashes_with}
use Rattle.round_mix.specs.declared.MarkedRule.{MarkedRule}
use Rattle.round_mix.proofs.PriorityLaws.{clash_in_priority}
use Rattle.round_mix.proofs.tried.has_clash.Goals as goal

pub returns : goal.returns
returns c =
    let k = c.args.rule.now.key in
    c.clashes_among.ensures ∙ ap (λ (ms : List MarkedRule). clashes_with k ms) c.of_priority.ensures ∙ clash_in_priority k c.args.marks.now
