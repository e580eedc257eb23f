use Rattle.two_phase.proofs.DepthLaws.{depths_fewer}
use Rattle.two_phase.proofs.laws.no_more_depths_than_ranks.Goals as goal

pub returns : goal.returns
returns c = λ net new. depths_fewer net new
