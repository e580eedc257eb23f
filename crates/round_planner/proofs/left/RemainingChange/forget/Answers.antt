use Rattle.std.proofs.lemmas.Bool.{both_ways}
use Rattle.round_planner.proofs.LeftLaws.{stands_on}
use Rattle.round_planner.proofs.left.RemainingChange.forget.Goals as goal

pub returns-else-is_touched-clause-stands : goal.returns-else-is_touched-clause-stands
returns-else-is_touched-clause-stands c = λ to tables users within stands.
    stands_on to tables c.args.self.now c.args.made.now users within (λ touched. both_ways c.is_touched.result c.if-is_touched.false (c.is_touched.ensures.1 touched)) stands
