use Rattle.std.proofs.Common.{arith}
use Rattle.plan_format.proofs.RankLaws.{number_fits, few_still}
use Rattle.plan_format.proofs.full_picks.add_full_pick.Goals as goal

pub overflow_cast-pick : goal.overflow_cast-pick
overflow_cast-pick c =
    let fits = number_fits c.args.table.now c.args.shared c.requires.few in
    omega (arith, fits, c.in_ok-number.ensures.number)

pub returns-clause-few : goal.returns-clause-few
returns-clause-few c =
    few_still c.args.place c.args.table.now c.args.shared c.add_shared.new.uses c.add_pick.new.picks _ c.add_pick.result c.requires.few c.requires.round c.requires.class
    c.in_ok-number.ensures.uses c.add_pick.ensures
