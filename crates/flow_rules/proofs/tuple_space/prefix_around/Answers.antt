use Rattle.std.proofs.Common.{◌≡◌, ◌*◌, ◌^◌, ◌-◌, ◌%◌, ◌<◌, ◌≤◌, ◌∙◌, arith}
use Rattle.std.proofs.lemmas.Nat.{shl_whole}
use Rattle.flow_rules.proofs.TupleLaws.{block_around}
use Rattle.flow_rules.proofs.tuple_space.prefix_around.Goals as goal

pub invariant_of-result : goal.invariant_of-result
invariant_of-result c =
    let k = 32 - c.prefix.inside.len in
    let few : c.prefix.inside.len ≤ 32 = c.prefix.invariant.length in
    let size : 1 * 2 ^ k % 2 ^ 64 ≡ 2 ^ k = shl_whole 1 1 k 64 (omega arith) (omega arith) ∙ omega arith in
    let below : c.args.address < 2 ^ 32 = omega arith in
    rw (size, c.from.ensures) (block_around c.args.address c.prefix.inside.len few below)
