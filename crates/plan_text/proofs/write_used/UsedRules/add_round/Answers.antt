use Rattle.std.proofs.Common.{List, get_or, map, take, ap, sym, ◌∙◌}
use Rattle.std.proofs.lemmas.List.{take_all, map_more}
use Rattle.update_model.specs.declared.Change.{Change}
use Rattle.plan_format.specs.declared.rules.PlanRule.{PlanRule}
use Rattle.plan_text.specs.PlanText.{plan_rule_of}
use Rattle.plan_text.specs.Uses.{with_use, with_uses}
use Rattle.plan_text.proofs.UsedRules.{uses_push}
use Rattle.plan_text.proofs.write_used.UsedRules.add_round.Goals as goal

pub loop-change-preserved : goal.loop-change-preserved
loop-change-preserved c =
    let i = c.loop-change.change-index in
    let round : List Change = c.args.round.now in
    let before : List PlanRule = map plan_rule_of (take i round) in
    let next : PlanRule = plan_rule_of (get_or round i c.change-item.result) in
    c.in_ok-add.ensures ∙ ap (λ (p : PlanRule). with_use c.loop-change.self p) (c.plan_rule_of.ensures ∙ ap plan_rule_of c.change-item.is) ∙ ap (λ (u : List PlanRule). with_use u next) c.loop-change.invariant
    ∙ sym (ap (with_uses c.args.self.now) (map_more plan_rule_of round i c.change-item.result c.loop-change-test.true) ∙ uses_push c.args.self.now before next)

pub returns : goal.returns
returns c =
    c.loop-change.invariant ∙ ap (λ (round : List Change). with_uses c.args.self.now (map plan_rule_of round)) (take_all c.loop-change.change-index c.args.round.now c.loop-change-test.false)
