use Rattle.two_phase.proofs.DepthLaws.{depth_rounds_count}
use Rattle.two_phase.proofs.laws.depth_rounds_count.Goals as goal

pub returns : goal.returns
returns c = λ net old new. depth_rounds_count net old new
