use Rattle.std.proofs.Common.{List, ℕ, ap, ◌∙◌, subst}
use Rattle.std.specs.Io.KnownBytes.{Appends}
use Rattle.std.proofs.lemmas.Result.{err_from_is_err_and}
use Rattle.serve_command.specs.Served.{after_line, line_block}
use Rattle.serve_command.specs.Stops.{StopsLine}
use Rattle.serve_command.proofs.ServeLaws.{served_ended, stops_ended}
use Rattle.serve_command.proofs.lines.serve_ended.Goals as goal

pub returns-in_err-serve_line-clause-stops : goal.returns-in_err-serve_line-clause-stops
returns-in_err-serve_line-clause-stops g c =
    let p = err_from_is_err_and c.from_residual.result c.from_residual.ensures.1 in
    rw (p.1, p.2)
    (λ v old bytes h.
    stops_ended v old (g.K.Sink.written c.args.sink.now) (g.K.Sink.written c.serve_line.new.sink) bytes c.args.desk.now.driver c.args.desk.now.line c.in_err-serve_line.field-0.0 h
    (subst (λ (l : List ℕ). StopsLine (g.K.Sink.written c.args.sink.now) (g.K.Sink.written c.serve_line.new.sink) (line_block c.args.desk.now.driver l) c.in_err-serve_line.field-0.0) c.bytes.ensures c.in_err-serve_line.ensures.front))

pub returns-clause-served : goal.returns-clause-served
returns-clause-served g c = λ v old bytes h.
    served_ended v old (g.K.Sink.written c.args.sink.now) (g.K.Sink.written c.serve_line.new.sink) bytes c.args.desk.now.driver c.serve_line.new.driver c.args.desk.now.line c.clear.new.self h
    (subst (λ (l : List ℕ). Appends (g.K.Sink.written c.args.sink.now) (g.K.Sink.written c.serve_line.new.sink) (line_block c.args.desk.now.driver l)) c.bytes.ensures c.in_ok-serve_line.ensures.all)
    (c.in_ok-serve_line.ensures.behind ∙ ap (after_line c.args.desk.now.driver) c.bytes.ensures) c.clear.ensures
