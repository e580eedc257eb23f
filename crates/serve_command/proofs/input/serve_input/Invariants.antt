use Rattle.std.proofs.Common.{◌≡◌, ◌≤◌, IsTrue}
use Rattle.serve_command.specs.Stops.{Suits}
use Rattle.serve_command.proofs.ServeLaws.{Taking}
use Rattle.serve_command.proofs.input.serve_input.Given as goal

abbrev pub invariant-takes : goal.invariant-takes
invariant-takes g l = record {
  suits : Suits l.update l.desk.driver;
  taking : Taking l.fn.desk.driver (g.S.Source.left l.fn.source) (g.S.Source.left l.source) (g.K.Sink.written l.fn.sink) (g.K.Sink.written l.sink) (g.S.Source.taken l.source) (g.S.SourceBeside.takes l.source) l.desk.driver l.desk.line;
  current : IsTrue (g.S.Source.is_current l.source);
  selected : g.S.Source.selected l.source ≡ g.S.Source.selected l.fn.source;
  held : g.S.Source.held l.source ≡ g.S.Source.held l.fn.source;
  later_source : g.S.Source.faults l.fn.source ≤ g.S.Source.faults l.source;
  later_sink : g.K.Sink.faults l.fn.sink ≤ g.K.Sink.faults l.sink;
}
