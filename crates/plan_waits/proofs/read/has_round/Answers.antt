use Rattle.std.proofs.Common.{◌∙◌}
use Rattle.plan_waits.proofs.Searching.{search_is}
use Rattle.plan_waits.proofs.read.has_round.Goals as goal

pub returns : goal.returns
returns c = c.is_ok.ensures.value ∙ search_is c.args.waits.now c.args.round c.binary_search.result c.requires c.binary_search.ensures.position
