use Rattle.std.proofs.Common.{List, [], ◌∷◌, ◌++◌, ℕ, ap, ◌∙◌}
use Rattle.plan_text.specs.PlanText.{plan_tree}
use Rattle.plan_text.proofs.ReadBack.{bytes_are}
use Rattle.plan_text.proofs.PlanAgain.{text_again}
use Rattle.plan_text.proofs.write.write_plan.Goals as goal

pub returns-clause-text : goal.returns-clause-text
returns-clause-text c =
    c.in_ok-push.ensures.items ∙ ap (λ (s : List ℕ). s ++ 10 ∷ []) (c.into_inner-text.ensures.items
    ∙ bytes_are c.new-out.result c.write_object.new.out (plan_tree c.args.net.now c.args.plan.now) (c.new-out.ensures.before ∙ c.new.ensures.items) c.new-out.ensures.tokens
    c.in_ok-write_object.ensures)

pub returns-clause-again : goal.returns-clause-again
returns-clause-again c =
    text_again c.args.net.now c.args.plan.now c.push.new.self.items c.new-out.result c.write_object.new.out c.keeps_rules.ensures c.requires.valid c.befores_fit.ensures
    (c.new-out.ensures.before ∙ c.new.ensures.items) c.new-out.ensures.tokens c.in_ok-write_object.ensures c.into_inner-text.ensures.reads_back c.into_inner-text.ensures.utf8
    (c.in_ok-push.ensures.items ∙ ap (λ (s : List ℕ). s ++ 10 ∷ []) c.into_inner-text.ensures.items)
