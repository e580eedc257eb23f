use Rattle.std.proofs.Common.{ℕ, ◌<◌, arith}
use Rattle.certificates.proofs.Chains.{granted, all_from}
use Rattle.certificates.proofs.validity.are_below.Goals as goal

pub returns : goal.returns
returns c = let past = c.loop-number-test.false in granted (all_from (λ (n : ℕ). n < c.args.count) c.args.numbers.now (λ k d lt. c.loop-number.invariant k d (omega arith)))
