use Rattle.two_phase.proofs.OrderedLaws.{ascending_is}
use Rattle.two_phase.proofs.blocks.put_in_key_order.Goals as goal

pub returns : goal.returns
returns c = ascending_is c.args.rules.now.items c.sort_by_key.new.rules.items c.requires c.sort_by_key.ensures.permutation (c.sort_by_key.ensures.ascending c.requires)
