use Rattle.std.proofs.Common.{arith}
use Rattle.file_access.proofs.Pieces.{poured-more, poured-front, cut-at}
use Rattle.file_access.proofs.transfer.pour.Goals as goal

pub puts-preserved : goal.puts-preserved
puts-preserved g c = record {
  poured = poured-more _ _ _ _ _ _ _ c.puts.invariant.poured (cut-at c.puts.rest.now c.in-Ok.count c.in-Ok.ensures.bound) c.in-Ok.ensures.written;
  later = omega arith;
}

pub returns-in-Err-clause-front : goal.returns-in-Err-clause-front
returns-in-Err-clause-front g c = poured-front _ _ _ _ _ c.puts.invariant.poured c.in-Err.ensures.unwritten
