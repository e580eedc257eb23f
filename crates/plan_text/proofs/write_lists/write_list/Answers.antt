use Rattle.std.proofs.Common.{arith}
use Rattle.plan_text.proofs.Adding.{token_added, all_added}
use Rattle.plan_text.proofs.write_lists.write_list.Goals as goal

pub returns : goal.returns
returns g c =
    all_added g.T.Written.tree c.args.items.now c.loop-item.item-index _ _ _ _ (omega arith) (token_added c.in_ok-begin_array.ensures) c.loop-item.invariant (token_added c.in_ok-end_array.ensures)
