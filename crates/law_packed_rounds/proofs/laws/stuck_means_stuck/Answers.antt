use Rattle.law_packed_rounds.proofs.Packed.{stuck_alone}
use Rattle.law_packed_rounds.proofs.laws.stuck_means_stuck.Goals as goal

pub returns : goal.returns
returns c = stuck_alone
