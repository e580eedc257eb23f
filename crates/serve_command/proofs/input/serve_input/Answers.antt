use Rattle.std.proofs.Common.{◌≡◌, ℕ, List, [], length, take, IsTrue, sym, ap, ◌∙◌, subst, arith}
use Rattle.std.proofs.lemmas.List.{length-take-le}
use Rattle.file_access.specs.Causes.{raised_count}
use Rattle.serve_command.specs.Takes.{Gave, AddsTake}
use Rattle.serve_command.proofs.ServeLaws.{takes_more, ends_piece, ends_unread, ends_ended, ends_wanting}
use Rattle.serve_command.proofs.input.serve_input.Goals as goal

pub returns-in-Err-serve_piece-clause-ends : goal.returns-in-Err-serve_piece-clause-ends
returns-in-Err-serve_piece-clause-ends g c =
    let t = c.takes.invariant.taking in
    let buf : List ℕ = c.take_beside.new.buf in
    let count : ℕ = c.in-Ok.count in
    let size : length (take count buf) ≡ count = length-take-le count buf (omega (arith, c.take_beside.auto.buf, c.in-Ok.ensures.bound)) in
    rw c.status_of.ensures
    (ends_piece c.args.desk.now.driver _ _ _ _ _ _ _ _ t (g.S.Source.left c.take_beside.new.self) _ _ _ (take count buf) c.in-Err-serve_piece.stop (omega (arith, size, c.in-Ok.count-test)) c.in-Ok.ensures.bytes
    (c.in-Ok.ensures.taken_ok ∙ sym (ap (raised_count (g.S.Source.taken c.takes.source)) size)) c.in-Ok.ensures.gave
    (c.in-Err-serve_piece.ensures.stops c.args.desk.now.driver (g.K.Sink.written c.args.sink.now) t.taken t.served))

pub returns-in-Err-clause-ends : goal.returns-in-Err-clause-ends
returns-in-Err-clause-ends g c = ends_unread _ _ _ _ _ _ _ _ _ c.takes.invariant.taking _ _ c.in-Err.ensures.taken_err c.in-Err.ensures.faulted

pub returns-in-Ok-eq0-clause-ends : goal.returns-in-Ok-eq0-clause-ends
returns-in-Ok-eq0-clause-ends g c =
    let buf : List ℕ = c.take_beside.new.buf in
    let count : ℕ = c.in-Ok-eq0.field-0 in
    let none : take count buf ≡ [] = ap (λ (k : ℕ). take k buf) c.in-Ok-eq0.field-0-test in
    ends_ended _ _ _ _ _ _ _ _ _ c.takes.invariant.taking _ _ _ _ (c.in-Ok-eq0.ensures.end c.in-Ok-eq0.field-0-test)
    (c.in-Ok-eq0.ensures.taken_ok ∙ ap (raised_count (g.S.Source.taken c.takes.source)) c.in-Ok-eq0.field-0-test)
    (subst (λ (piece : List ℕ). AddsTake (g.S.SourceBeside.takes c.takes.source) (g.S.SourceBeside.takes c.take_beside.new.self) (Gave (g.K.Sink.written c.takes.sink) piece)) none c.in-Ok-eq0.ensures.gave)
    (λ bytes all served. c.serve_end.ensures.ends c.args.desk.now.driver (g.S.Source.left c.args.source.now) (g.K.Sink.written c.args.sink.now) bytes all served)

pub takes-preserved : goal.takes-preserved
takes-preserved g c =
    let t = c.takes.invariant.taking in
    let buf : List ℕ = c.take_beside.new.buf in
    let count : ℕ = c.in-Ok.count in
    let size : length (take count buf) ≡ count = length-take-le count buf (omega (arith, c.take_beside.auto.buf, c.in-Ok.ensures.bound)) in
    record {
      suits = c.in-Ok-serve_piece.ensures.suits;
      taking = takes_more c.args.desk.now.driver _ _ _ _ _ _ _ _ t (g.S.Source.left c.take_beside.new.self) _ _ _ _ _ (take count buf) (omega (arith, size, c.in-Ok.count-test)) c.in-Ok.ensures.bytes
          (c.in-Ok.ensures.taken_ok ∙ sym (ap (raised_count (g.S.Source.taken c.takes.source)) size)) c.in-Ok.ensures.gave
          (c.in-Ok-serve_piece.ensures.served c.args.desk.now.driver (g.K.Sink.written c.args.sink.now) t.taken t.served);
      current = subst IsTrue (sym c.in-Ok.ensures.current) c.takes.invariant.current;
      selected = c.in-Ok.ensures.selected ∙ c.takes.invariant.selected;
      held = c.in-Ok.ensures.held ∙ c.takes.invariant.held;
      later_source = omega (arith, c.in-Ok.ensures.later, c.takes.invariant.later_source);
      later_sink = omega (arith, c.in-Ok-serve_piece.ensures.later, c.takes.invariant.later_sink);
    }

pub returns-clause-ends : goal.returns-clause-ends
returns-clause-ends g c = ends_wanting _ _ _ _ _ _ _ _ _ c.takes.invariant.taking
