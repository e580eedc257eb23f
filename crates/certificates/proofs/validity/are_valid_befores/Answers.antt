use Rattle.std.proofs.Common.{arith}
use Rattle.certificates.specs.Valid.{IsValidBefore}
use Rattle.certificates.proofs.Chains.{granted, all_from, all_more, all_refused}
use Rattle.certificates.proofs.validity.are_valid_befores.Goals as goal

pub returns-then-not-is_valid_before : goal.returns-then-not-is_valid_before
returns-then-not-is_valid_before c =
    all_refused (IsValidBefore c.args.net.now) c.args.befores.now c.loop-before.before-index c.before-item.result c.is_valid_before.result c.loop-before-test.true c.before-item.is c.if-not-is_valid_before.true c.is_valid_before.ensures

pub loop-before-preserved : goal.loop-before-preserved
loop-before-preserved c =
    all_more (IsValidBefore c.args.net.now) c.args.befores.now c.loop-before.before-index c.before-item.result c.loop-before-test.true c.before-item.is (c.is_valid_before.ensures.0 c.if-not-is_valid_before.false) c.loop-before.invariant

pub returns : goal.returns
returns c = let past = c.loop-before-test.false in granted (all_from (IsValidBefore c.args.net.now) c.args.befores.now (λ k d lt. c.loop-before.invariant k d (omega arith)))
