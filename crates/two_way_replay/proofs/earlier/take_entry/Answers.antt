use Rattle.std.proofs.Common.{sym}
use Rattle.two_way_replay.proofs.ActionLaws.{none_taken}
use Rattle.two_way_replay.proofs.earlier.take_entry.Goals as goal

pub returns-else-has_key : goal.returns-else-has_key
returns-else-has_key c =
    sym (none_taken c.args.key.now c.args.table.now.rules (λ i. let on = c.has_key.ensures.1 i in let off = c.if-has_key.false in cc))
