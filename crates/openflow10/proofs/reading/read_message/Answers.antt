use Rattle.std.specs.Prelude.{None}
use Rattle.std.proofs.lemmas.Result.{err_from_is_err_and}
use Rattle.openflow10.proofs.Decoded.{refused_by_header, refused_by_body}
use Rattle.openflow10.proofs.reading.read_message.Goals as goal

pub returns-in_err-kind-clause-refused : goal.returns-in_err-kind-clause-refused
returns-in_err-kind-clause-refused c =
    let p = err_from_is_err_and c.from_residual.result c.from_residual.ensures.1 in
    rw (p.1, p.2) (refused_by_header c.args.bytes.now _ c.in_err-kind.ensures.refused)

pub returns-in_err-message-clause-refused : goal.returns-in_err-message-clause-refused
returns-in_err-message-clause-refused c =
    let p = err_from_is_err_and c.from_residual-in_err-message.result c.from_residual-in_err-message.ensures.1 in
    rw (p.1, p.2) (refused_by_body c.args.bytes.now _ c.in_ok-kind.ensures.refused c.in_err-message.ensures.refused)

pub returns-clause-refused : goal.returns-clause-refused
returns-clause-refused c = refused_by_body c.args.bytes.now None c.in_ok-kind.ensures.refused c.in_ok-message.ensures.refused
