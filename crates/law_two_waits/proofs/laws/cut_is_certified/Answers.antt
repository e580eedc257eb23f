use Rattle.std.proofs.Common.{◌<◌, length}
use Rattle.std.specs.Prelude.{reverse}
use Rattle.two_phase.specs.TwoPhasePlan.{ranks}
use Rattle.two_phase.specs.Depths.{ingress_depth, depth_count, depths}
use Rattle.two_phase.proofs.RankLaws.{rank_layering}
use Rattle.two_phase.proofs.DepthLaws.{depth_layering}
use Rattle.law_two_waits.proofs.Fewest.{certified_by_two}
use Rattle.law_two_waits.proofs.laws.cut_is_certified.Goals as goal

pub returns-clause-by_rank : goal.returns-clause-by_rank
returns-clause-by_rank c =
    λ net old new tried. certified_by_two net old new (λ s r. r.key.priority) (λ a b. b < a)
    (length (ranks net new)) (reverse (ranks net new)) (ranks net new) (rank_layering net new) tried

pub returns-clause-by_depth : goal.returns-clause-by_depth
returns-clause-by_depth c =
    λ net old new tried. certified_by_two net old new (ingress_depth net new) (λ a b. a < b)
    (depth_count net new) (depths net new) (reverse (depths net new)) (depth_layering net new) tried
