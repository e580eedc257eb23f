use Rattle.std.proofs.Common.{arith}
use Rattle.plan_text.specs.PlanText.{round_tree}
use Rattle.plan_text.proofs.Adding.{token_added, all_added}
use Rattle.plan_text.proofs.write_changes.write_rounds.Goals as goal

pub returns : goal.returns
returns c =
    all_added (round_tree c.args.net.now) c.args.rounds.now c.loop-k.k _ _ _ _ (omega arith) (token_added c.in_ok-begin_array.ensures) c.loop-k.invariant (token_added c.in_ok-end_array.ensures)
