use Rattle.std.proofs.Common.{◌∙◌}
use Rattle.plan_text.specs.PlanText.{rounds_tree}
use Rattle.plan_text.proofs.ReadBack.{bytes_are}
use Rattle.plan_text.proofs.write.rounds_text.Goals as goal

pub returns : goal.returns
returns c =
    c.into_inner.ensures.items
    ∙ bytes_are c.new-out.result c.write_rounds.new.out (rounds_tree c.args.net.now c.args.rounds.now) (c.new-out.ensures.before ∙ c.new.ensures.items) c.new-out.ensures.tokens
    c.in_ok-write_rounds.ensures
