use Rattle.std.proofs.Common.{◌∙◌}
use Rattle.plan_text.specs.PlanText.{numbers_tree}
use Rattle.plan_text.proofs.ReadBack.{bytes_are}
use Rattle.plan_waits.proofs.write.numbers_text.Goals as goal

pub returns : goal.returns
returns c =
    c.into_inner.ensures.items
    ∙ bytes_are c.new-out.result c.write_numbers.new.out (numbers_tree c.args.numbers.now) (c.new-out.ensures.before ∙ c.new.ensures.items) c.new-out.ensures.tokens c.in_ok-write_numbers.ensures
