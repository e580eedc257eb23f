use Rattle.std.proofs.Common.{◌+◌, ◌-◌, ◌/◌, arith}
use Rattle.round_mix.proofs.LeadingLaws.{leading_few}
use Rattle.round_mix.proofs.leading.good_below.Goals as goal

pub are_good-requires : goal.are_good-requires
are_good-requires c =
    let few = leading_few c.args.table.now.rules (c.halving.good + (c.halving.bad - c.halving.good) / 2) c.args.changes.now in
    omega (arith, few, c.requires.room, c.halving.invariant.room)
