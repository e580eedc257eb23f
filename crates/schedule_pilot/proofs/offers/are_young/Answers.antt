use Rattle.schedule_pilot.proofs.OfferLaws.{young_is}
use Rattle.schedule_pilot.proofs.offers.are_young.Goals as goal

pub returns : goal.returns
returns c = young_is c.args.k c.args.packets.now c.args.under_way.now c.are_young_at.result c.requires c.are_young_at.ensures
