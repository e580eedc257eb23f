use Rattle.std.proofs.Common.{◌≡◌, ◌∙◌, ap, map, length, arith}
use Rattle.two_phase.proofs.SwitchLaws.{all_priorities}
use Rattle.two_phase.proofs.switch_rules.SwitchRules.priorities.Goals as goal

pub returns : goal.returns
returns c =
    let e : c.loop-rules.rules-index ≡ length c.deref-rules-items.result.now = omega arith in
    c.loop-rules.invariant
    ∙ all_priorities (λ v. v.items) c.args.first c.deref-rules-items.result.now c.loop-rules.rules-index e c.args.self.now (ap (map (λ v. v.items)) c.deref-rules-items.ensures.value ∙ c.self.view_is)
