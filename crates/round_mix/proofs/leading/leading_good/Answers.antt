use Rattle.std.proofs.Common.{arith}
use Rattle.round_mix.proofs.LeadingLaws.{leading_few}
use Rattle.round_mix.proofs.leading.leading_good.Goals as goal

pub are_good-requires : goal.are_good-requires
are_good-requires c =
    let few = leading_few c.args.table.now.rules c.count_marked-count.result c.args.changes.now in
    omega (arith, few, c.requires, c.fill_sorted.ensures.room, c.count_marked-count.ensures.room)
