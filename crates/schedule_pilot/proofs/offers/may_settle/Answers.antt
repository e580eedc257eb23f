use Rattle.schedule_pilot.proofs.OfferLaws.{settles}
use Rattle.schedule_pilot.proofs.offers.may_settle.Goals as goal

pub returns-then-is_running : goal.returns-then-is_running
returns-then-is_running c =
    settles c.args.world.now.state c.phase.result c.args.pending.now c.is_empty.result c.requires c.phase.ensures (c.is_running.ensures.0 c.if-is_running.true) c.is_empty.ensures
