use Rattle.std.proofs.Common.{◌≡◌, ◌*◌, ◌^◌, ◌%◌, ◌<◌, ◌≤◌, refl, ◌∙◌, arith}
use Rattle.std.proofs.lemmas.Nat.{shl_whole}
use Rattle.flow_stats.proofs.Destinations.{whole_part}
use Rattle.flow_stats.proofs.profile.prefix_without.Goals as goal

pub overflow_cast-result : goal.overflow_cast-result
overflow_cast-result c =
    let k = c.args.ignored in
    let few : k ≤ 32 = c.requires in
    let size : 1 * 2 ^ k % 2 ^ 64 ≡ 2 ^ k = shl_whole 1 1 k 64 (omega arith) (omega arith) ∙ omega arith in
    let below : c.args.address < 2 ^ 32 = omega arith in
    let whole = whole_part c.args.address k few below in
    rw (size, c.from.ensures) (omega (arith, whole.base))

pub invariant_of-result : goal.invariant_of-result
invariant_of-result c =
    let k = c.args.ignored in
    let few : k ≤ 32 = c.requires in
    let size : 1 * 2 ^ k % 2 ^ 64 ≡ 2 ^ k = shl_whole 1 1 k 64 (omega arith) (omega arith) ∙ omega arith in
    let below : c.args.address < 2 ^ 32 = omega arith in
    rw (size, c.from.ensures) (whole_part c.args.address k few below)

pub returns : goal.returns
returns c =
    let k = c.args.ignored in
    let few : k ≤ 32 = c.requires in
    let size : 1 * 2 ^ k % 2 ^ 64 ≡ 2 ^ k = shl_whole 1 1 k 64 (omega arith) (omega arith) ∙ omega arith in
    rw (size, c.from.ensures) refl
