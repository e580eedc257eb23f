use Rattle.std.proofs.Common.{arith}
use Rattle.openflow10.proofs.NumberLaws.{IsBytes}
use Rattle.openflow10.proofs.Decoded.{found_begins, only_found}
use Rattle.openflow10.proofs.reading.decode.Goals as goal

pub returns-clause-found : goal.returns-clause-found
returns-clause-found c =
    let fits : IsBytes c.args.bytes.now = record { below = λ i. omega (arith, c.type_inv.bytes i) } in
    found_begins c.args.bytes.now _ fits (c.read_message.ensures.refused, c.read_message.ensures.found)

pub returns-clause-only : goal.returns-clause-only
returns-clause-only c = only_found c.args.bytes.now _ (c.read_message.ensures.refused, c.read_message.ensures.found)
