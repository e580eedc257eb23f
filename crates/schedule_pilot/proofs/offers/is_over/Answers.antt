use Rattle.std.proofs.Common.{◌∙◌, ap, length}
use Rattle.schedule_pilot.specs.Driving.{world_rollout}
use Rattle.schedule_pilot.proofs.OfferLaws.{over_is}
use Rattle.schedule_pilot.proofs.offers.is_over.Goals as goal

pub returns-then-is_settled : goal.returns-then-is_settled
returns-then-is_settled c =
    over_is (world_rollout c.args.world.now) c.args.world.now.state c.args.entries.now c.args.under_way.now c.phase.result c.count.result c.are_none.result
    c.requires c.phase.ensures (c.count.ensures ∙ ap length c.rounds.ensures) (c.is_settled.ensures.0 c.if-is_settled.true) c.are_none.ensures
