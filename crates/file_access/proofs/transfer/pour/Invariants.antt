use Rattle.std.proofs.Common.{◌≤◌, length}
use Rattle.file_access.proofs.Pieces.{Poured}
use Rattle.file_access.proofs.transfer.pour.Given as goal

abbrev pub invariant-puts : goal.invariant-puts
invariant-puts g l = record {
  poured : Poured (g.K.Sink.written l.fn.sink) (g.K.Sink.written l.sink) l.bytes l.rest;
  later : g.K.Sink.faults l.fn.sink ≤ g.K.Sink.faults l.sink;
}

abbrev pub decreases-puts : goal.decreases-puts
decreases-puts g l = length l.rest
