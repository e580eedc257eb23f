use Rattle.std.proofs.Common.{subst, arith}
use Rattle.plan_format.specs.declared.rules.PlanRule.{PlanRule}
use Rattle.plan_text.specs.PlanText.{rule_tree}
use Rattle.plan_text.specs.Tokens.{tokens_of, Adds}
use Rattle.plan_text.proofs.Adding.{token_added, item_added, all_added}
use Rattle.plan_text.proofs.write_changes.write_rules.Goals as goal

pub loop-placed-preserved : goal.loop-placed-preserved
loop-placed-preserved c =
    item_added (rule_tree c.args.net.now) c.args.rules.now c.loop-placed.placed-index c.placed-item.result _ _ _ c.loop-placed-test.true c.loop-placed.invariant
    (subst (λ (x : PlanRule). Adds c.loop-placed.out c.write_rule.new.out (tokens_of (rule_tree c.args.net.now x))) c.placed-item.is c.in_ok-write_rule.ensures)

pub returns : goal.returns
returns c =
    all_added (rule_tree c.args.net.now) c.args.rules.now c.loop-placed.placed-index _ _ _ _ (omega arith) (token_added c.in_ok-begin_array.ensures) c.loop-placed.invariant (token_added c.in_ok-end_array.ensures)
