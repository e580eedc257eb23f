use Rattle.std.proofs.Common.{subst, arith}
use Rattle.update_model.specs.declared.Change.{Change}
use Rattle.plan_text.specs.PlanText.{change_tree}
use Rattle.plan_text.specs.Tokens.{tokens_of, Adds}
use Rattle.plan_text.proofs.Adding.{token_added, item_added, all_added}
use Rattle.plan_text.proofs.write_changes.write_round.Goals as goal

pub loop-change-preserved : goal.loop-change-preserved
loop-change-preserved c =
    item_added (change_tree c.args.net.now) c.args.round.now c.loop-change.change-index c.change-item.result _ _ _ c.loop-change-test.true c.loop-change.invariant
    (subst (λ (x : Change). Adds c.loop-change.out c.write_change.new.out (tokens_of (change_tree c.args.net.now x))) c.change-item.is c.in_ok-write_change.ensures)

pub returns : goal.returns
returns c =
    all_added (change_tree c.args.net.now) c.args.round.now c.loop-change.change-index _ _ _ _ (omega arith) (token_added c.in_ok-begin_array.ensures) c.loop-change.invariant (token_added c.in_ok-end_array.ensures)
