use Rattle.std.proofs.Common.{ap, ◌++◌, ◌∷◌, [], if◌then◌else◌, ◌∙◌}
use Rattle.std.specs.List.{list_any}
use Rattle.plan_text.specs.Uses.{with_use}
use Rattle.plan_text.proofs.UsedRules.{derived_test}
use Rattle.plan_text.proofs.write_used.UsedRules.add.Goals as goal

pub returns : goal.returns
returns c =
    let keys = c.self.inside.set.keys in
    c.in_ok-insert.ensures.keys ∙ ap (λ test. if list_any test keys then keys else keys ++ c.args.rule ∷ []) (derived_test c.args.rule)
    ∙ ap (λ before. with_use before c.args.rule) c.self.view_is
