use Rattle.std.proofs.Common.{◌+◌, ◌≤◌, get_or, sum, add-one, arith}
use Rattle.schedule_pilot.proofs.CountLaws.{two_fit}
use Rattle.schedule_pilot.proofs.flag_tree.pair_sum.Goals as goal

pub overflow_add-result-then-row-i-gt1 : goal.overflow_add-result-then-row-i-gt1
overflow_add-result-then-row-i-gt1 c =
    let two : get_or c.args.row.now c.args.i 0 + get_or c.args.row.now (c.args.i + 1) 0 ≤ sum c.args.row.now = rw add-one (two_fit c.args.row.now c.args.i) in
    let few = c.requires.few in
    omega arith
