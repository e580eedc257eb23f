use Rattle.std.proofs.Common.{arith}
use Rattle.config_files.specs.RuleTrees.{whole_tree}
use Rattle.plan_text.proofs.Adding.{token_added, all_added}
use Rattle.plan_waits.proofs.write.write_numbers.Goals as goal

pub returns : goal.returns
returns c =
    all_added whole_tree c.args.numbers.now c.loop-number.number-index _ _ _ _ (omega arith) (token_added c.in_ok-begin_array.ensures) c.loop-number.invariant (token_added c.in_ok-end_array.ensures)
