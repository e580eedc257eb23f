use Rattle.std.proofs.Common.{◌≡◌, ℕ, ◌+◌, ◌<◌, length, List, [], ◌∷◌, ◌++◌, take, drop, get_or, sym, ap, ◌∙◌, subst, append_assoc, arith}
use Rattle.std.proofs.lemmas.List.{take_more, take-append-drop}
use Rattle.std.proofs.lemmas.Result.{err_from_is_err_and}
use Rattle.serve_lines.specs.Lines.{ended_lines}
use Rattle.serve_command.specs.Served.{blocks}
use Rattle.serve_command.specs.Stops.{StopsAt}
use Rattle.serve_command.proofs.ServeLaws.{stops_on}
use Rattle.serve_command.proofs.lines.serve_piece.Goals as goal

-- bytes, a front of a piece, the next byte, and the rest
whole_piece : (bytes piece : List ℕ) (i : ℕ) → i < length piece → ((bytes ++ take i piece) ++ get_or piece i 0 ∷ []) ++ drop (i + 1) piece ≡ bytes ++ piece
whole_piece bytes piece i lt =
    ap (λ (t : List ℕ). t ++ drop (i + 1) piece) (append_assoc bytes (take i piece) (get_or piece i 0 ∷ []) ∙ ap (λ (t : List ℕ). bytes ++ t) (sym (take_more piece i 0 lt)))
    ∙ append_assoc bytes (take (i + 1) piece) (drop (i + 1) piece) ∙ ap (λ (t : List ℕ). bytes ++ t) (take-append-drop (i + 1) piece)

pub returns-in_err-serve_byte-clause-stops : goal.returns-in_err-serve_byte-clause-stops
returns-in_err-serve_byte-clause-stops g c =
    let p = err_from_is_err_and c.from_residual.result c.from_residual.ensures.1 in
    let piece : List ℕ = c.args.piece.now in
    let i : ℕ = c.loop-byte.byte-index in
    rw (p.1, p.2)
    (λ v old bytes h.
    subst (λ (t : List ℕ). StopsAt (blocks v) old (g.K.Sink.written c.serve_byte.new.sink) (ended_lines t) c.in_err-serve_byte.field-0.0) (whole_piece bytes piece i (omega arith))
    (stops_on v old (g.K.Sink.written c.serve_byte.new.sink) ((bytes ++ take i piece) ++ get_or piece i 0 ∷ []) (drop (i + 1) piece) c.in_err-serve_byte.field-0.0
    (c.in_err-serve_byte.ensures.stops v old (bytes ++ take i piece) (c.loop-byte.invariant.served v old bytes h))))
