use Rattle.std.proofs.Common.{◌≡◌, ◌<◌, List, ℕ, length, ap, subst, arith}
use Rattle.std.specs.Io.KnownBytes.{Appends}
use Rattle.std.proofs.lemmas.Result.{IfErr-weaker}
use Rattle.serve_command.specs.Served.{line_block}
use Rattle.serve_command.specs.Stops.{StopsLine}
use Rattle.serve_command.proofs.AnswerLaws.{on_ok_too}
use Rattle.serve_command.proofs.ServeLaws.{empty_of, served_none, served_last, stops_last}
use Rattle.serve_command.proofs.lines.serve_last.Goals as goal

pub returns-then-line-eq0-clause-served : goal.returns-then-line-eq0-clause-served
returns-then-line-eq0-clause-served g c = λ v old bytes h.
    served_none v old (g.K.Sink.written c.args.sink.now) bytes c.args.desk.now.driver c.args.desk.now.line h (empty_of c.args.desk.now.line (omega (arith, ap length c.bytes-line.ensures)))

pub returns-clause-served : goal.returns-clause-served
returns-clause-served g c =
    let some : 0 < length c.args.desk.now.line = omega (arith, ap length c.bytes-line.ensures) in
    on_ok_too c.serve_line.result
    (λ all v old bytes h.
    served_last v old (g.K.Sink.written c.args.sink.now) (g.K.Sink.written c.serve_line.new.sink) bytes c.args.desk.now.driver c.args.desk.now.line h some
    (subst (λ (l : List ℕ). Appends (g.K.Sink.written c.args.sink.now) (g.K.Sink.written c.serve_line.new.sink) (line_block c.args.desk.now.driver l)) c.bytes-line.ensures all))
    c.serve_line.ensures.all

pub returns-clause-stops : goal.returns-clause-stops
returns-clause-stops g c =
    let some : 0 < length c.args.desk.now.line = omega (arith, ap length c.bytes-line.ensures) in
    IfErr-weaker c.serve_line.result _ _
    (λ s front v old bytes h.
    stops_last v old (g.K.Sink.written c.args.sink.now) (g.K.Sink.written c.serve_line.new.sink) bytes c.args.desk.now.driver c.args.desk.now.line s h some
    (subst (λ (l : List ℕ). StopsLine (g.K.Sink.written c.args.sink.now) (g.K.Sink.written c.serve_line.new.sink) (line_block c.args.desk.now.driver l) s) c.bytes-line.ensures front))
    c.serve_line.ensures.front
