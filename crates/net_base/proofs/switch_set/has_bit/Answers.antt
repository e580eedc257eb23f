use Rattle.std.proofs.Common.{◌≡◌, ◌<◌, ◌≤◌, arith, tests}
use Rattle.std.specs.Int.{bit_at}
use Rattle.std.proofs.lemmas.Nat.{one_shl, pow_pos}
use Rattle.std.proofs.lemmas.Nat.Bits.{and_pow, bit_at_above}
use Rattle.net_base.proofs.switch_set.has_bit.Goals as goal

pub returns-then-n-lt128 : goal.returns-then-n-lt128
returns-then-n-lt128 c = let less : c.args.n < 128 = c.if-n-lt128.true in grind (arith, tests, one_shl c.args.n 128 less, and_pow c.args.bits c.args.n, pow_pos c.args.n)

pub returns-else-n-lt128 : goal.returns-else-n-lt128
returns-else-n-lt128 c =
    let past : 128 ≤ c.args.n = c.if-n-lt128.false in
    let none : bit_at c.args.bits c.args.n ≡ 0 = bit_at_above c.args.bits 128 c.args.n c.ranges.bits.fits past in
    grind (arith, tests, none)
