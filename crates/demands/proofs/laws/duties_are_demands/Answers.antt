use Rattle.demands.proofs.MeetsLaws.{good_meets, meets_good}
use Rattle.demands.proofs.laws.duties_are_demands.Goals as goal

pub returns : goal.returns
returns c = λ demands entry dst trace. (good_meets demands entry dst trace, meets_good demands entry dst trace)
