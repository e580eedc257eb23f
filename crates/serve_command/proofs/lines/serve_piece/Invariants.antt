use Rattle.std.proofs.Common.{ℕ, ◌≤◌, List, ◌++◌, take}
use Rattle.std.specs.Prelude.{Option}
use Rattle.two_way_driver.specs.Calls.{DriverView}
use Rattle.serve_command.specs.Stops.{Suits, HasServed}
use Rattle.serve_command.proofs.lines.serve_piece.Given as goal

abbrev pub invariant-loop-byte : goal.invariant-loop-byte
invariant-loop-byte g l = record {
  suits : Suits l.update l.desk.driver;
  served : (v : DriverView) (old : Option (List ℕ)) (bytes : List ℕ) → HasServed v old (g.K.Sink.written l.fn.sink) bytes l.fn.desk.driver l.fn.desk.line
      → HasServed v old (g.K.Sink.written l.sink) (bytes ++ take l.byte-index l.piece) l.desk.driver l.desk.line;
  later : g.K.Sink.faults l.fn.sink ≤ g.K.Sink.faults l.sink;
}
