use Rattle.std.proofs.Common.{arith}
use Rattle.certificates.specs.Valid.{IsValidUse}
use Rattle.certificates.proofs.Chains.{granted, all_from, all_more, all_refused}
use Rattle.certificates.proofs.validity.are_valid_uses.Goals as goal

pub returns-then-not-is_valid_use : goal.returns-then-not-is_valid_use
returns-then-not-is_valid_use c =
    all_refused (IsValidUse c.args.numberings c.args.befores) c.args.uses.now c.loop-shared.shared-index c.shared-item.result c.is_valid_use.result c.loop-shared-test.true c.shared-item.is c.if-not-is_valid_use.true c.is_valid_use.ensures

pub loop-shared-preserved : goal.loop-shared-preserved
loop-shared-preserved c =
    all_more (IsValidUse c.args.numberings c.args.befores) c.args.uses.now c.loop-shared.shared-index c.shared-item.result c.loop-shared-test.true c.shared-item.is (c.is_valid_use.ensures.0 c.if-not-is_valid_use.false) c.loop-shared.invariant

pub returns : goal.returns
returns c = let past = c.loop-shared-test.false in granted (all_from (IsValidUse c.args.numberings c.args.befores) c.args.uses.now (λ k d lt. c.loop-shared.invariant k d (omega arith)))
