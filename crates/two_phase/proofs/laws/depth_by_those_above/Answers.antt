use Rattle.two_phase.proofs.DepthLaws.{depth_is}
use Rattle.two_phase.proofs.laws.depth_by_those_above.Goals as goal

pub returns : goal.returns
returns c = λ rules r. depth_is rules r
