use Rattle.std.proofs.Common.{◌++◌, ◌<◌, ◌≡◌, length, take, length-append, length-take-le, arith}
use Rattle.file_access.proofs.Pieces.{reads-more, reads-longer}
use Rattle.file_access.proofs.transfer.fetch.Goals as goal

pub returns-then-count-room-clause-longer : goal.returns-then-count-room-clause-longer
returns-then-count-room-clause-longer g c =
    let piece = take c.in-Ok.count c.take.new.buf in
    let all : length piece ≡ c.in-Ok.count = length-take-le c.in-Ok.count c.take.new.buf (omega (arith, c.take.auto.buf, c.in-Ok.ensures.bound)) in
    let more : c.args.limit < length (c.takes.bytes.items ++ piece) = omega (arith, length-append c.takes.bytes.items piece) in
    λ _. reads-longer (g.S.Source.held c.args.src.now) c.args.name.now (c.takes.bytes.items ++ piece) (g.S.Source.left c.take.new.self) c.args.limit
    (reads-more (g.S.Source.held c.args.src.now) c.args.name.now c.takes.bytes.items piece (g.S.Source.left c.takes.src) (g.S.Source.left c.take.new.self) c.takes.invariant.reads c.in-Ok.ensures.bytes)
    more
