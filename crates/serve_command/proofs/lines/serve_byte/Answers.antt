use Rattle.std.proofs.Common.{refl}
use Rattle.std.proofs.lemmas.Result.{err_from_is_err_and}
use Rattle.serve_command.proofs.ServeLaws.{served_kept, stops_kept}
use Rattle.serve_command.proofs.lines.serve_byte.Goals as goal

pub returns-in_err-push-clause-stops : goal.returns-in_err-push-clause-stops
returns-in_err-push-clause-stops g c =
    let p = err_from_is_err_and c.from_residual.result c.from_residual.ensures.1 in
    rw (p.1, p.2)
    (λ v old bytes h. stops_kept v old (g.K.Sink.written c.args.sink.now) bytes c.args.byte c.args.desk.now.driver c.args.desk.now.line c.if-byte-eq10.false h)

pub returns-clause-served : goal.returns-clause-served
returns-clause-served g c = λ v old bytes h.
    served_kept v old (g.K.Sink.written c.args.sink.now) bytes c.args.byte c.args.desk.now.driver c.args.desk.now.driver c.args.desk.now.line c.push.new.self c.if-byte-eq10.false h refl c.in_ok-push.ensures.ok
