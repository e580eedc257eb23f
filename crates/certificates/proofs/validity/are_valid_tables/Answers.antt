use Rattle.std.proofs.Common.{arith}
use Rattle.certificates.specs.Valid.{IsValidTable}
use Rattle.certificates.proofs.Chains.{granted, all_from, all_more, all_refused}
use Rattle.certificates.proofs.validity.are_valid_tables.Goals as goal

pub returns-then-not-is_valid_table : goal.returns-then-not-is_valid_table
returns-then-not-is_valid_table c =
    all_refused IsValidTable c.args.tables.now c.loop-table.table-index c.table-item.result c.is_valid_table.result c.loop-table-test.true c.table-item.is c.if-not-is_valid_table.true c.is_valid_table.ensures

pub loop-table-preserved : goal.loop-table-preserved
loop-table-preserved c =
    all_more IsValidTable c.args.tables.now c.loop-table.table-index c.table-item.result c.loop-table-test.true c.table-item.is (c.is_valid_table.ensures.0 c.if-not-is_valid_table.false) c.loop-table.invariant

pub returns : goal.returns
returns c = let past = c.loop-table-test.false in granted (all_from IsValidTable c.args.tables.now (λ k d lt. c.loop-table.invariant k d (omega arith)))
