use Rattle.std.proofs.Common.{ap, position, ◌∙◌}
use Rattle.std.specs.Option.{unwrap_or}
use Rattle.plan_text.specs.PlanText.{plan_rule_eq}
use Rattle.plan_text.proofs.UsedRules.{derived_test}
use Rattle.plan_text.proofs.write_used.UsedRules.number.Goals as goal

pub returns : goal.returns
returns c =
    c.unwrap_or.ensures ∙ ap (λ o. unwrap_or o 0) c.get_index_of.ensures.index ∙ ap (λ test. unwrap_or (position test c.self.inside.set.keys) 0) (derived_test c.args.rule)
    ∙ ap (λ keys. unwrap_or (position (plan_rule_eq c.args.rule) keys) 0) c.self.view_is
