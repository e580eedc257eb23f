use Rattle.std.proofs.Common.{length, ap, arith}
use Rattle.round_tables.proofs.ApplyLaws.{total_kept}
use Rattle.round_tables.proofs.applying.change_table.Goals as goal

pub returns-clause-room : goal.returns-clause-room
returns-clause-room c =
    let total = total_kept c.args.change.now c.args.table.now.rules c.args.table.now.spare c.keeps_keys.ensures c.requires.applies c.requires.room in
    let rules = ap length c.apply_to.ensures.rules in
    omega (arith, c.apply_to.ensures.spare)
