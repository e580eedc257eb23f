use Rattle.std.proofs.Common.{arith}
use Rattle.certificates.specs.Valid.{IsValidNumbering}
use Rattle.certificates.proofs.Chains.{granted, all_from, all_more, all_refused}
use Rattle.certificates.proofs.validity.are_valid_numberings.Goals as goal

pub returns-then-not-is_valid_numbering : goal.returns-then-not-is_valid_numbering
returns-then-not-is_valid_numbering c =
    all_refused (IsValidNumbering c.args.net.now) c.args.numberings.now c.loop-numbering.numbering-index c.numbering-item.result c.is_valid_numbering.result c.loop-numbering-test.true c.numbering-item.is c.if-not-is_valid_numbering.true c.is_valid_numbering.ensures

pub loop-numbering-preserved : goal.loop-numbering-preserved
loop-numbering-preserved c =
    all_more (IsValidNumbering c.args.net.now) c.args.numberings.now c.loop-numbering.numbering-index c.numbering-item.result c.loop-numbering-test.true c.numbering-item.is (c.is_valid_numbering.ensures.0 c.if-not-is_valid_numbering.false) c.loop-numbering.invariant

pub returns : goal.returns
returns c = let past = c.loop-numbering-test.false in granted (all_from (IsValidNumbering c.args.net.now) c.args.numberings.now (λ k d lt. c.loop-numbering.invariant k d (omega arith)))
