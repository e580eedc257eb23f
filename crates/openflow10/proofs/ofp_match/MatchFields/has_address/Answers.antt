use Rattle.std.proofs.Common.{◌≡◌, ◌∙◌, ◌*◌, ◌^◌, ◌%◌, arith}
use Rattle.std.proofs.lemmas.Nat.{shl_whole}
use Rattle.openflow10.specs.Refusals.{has_address}
use Rattle.openflow10.proofs.ofp_match.MatchFields.has_address.Goals as goal

pub returns : goal.returns
unfolding has_address
returns c =
    let k = c.ignored_bits.result in
    let few = c.ignored_bits.ensures.six_bits in
    let size : 1 * 2 ^ k % 2 ^ 64 ≡ 2 ^ k = shl_whole 1 1 k 64 (omega arith) (omega arith) ∙ omega arith in
    rw (size, c.from.ensures, c.ignored_bits.ensures.value)
