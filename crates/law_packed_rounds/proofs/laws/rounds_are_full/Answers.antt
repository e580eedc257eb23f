use Rattle.law_packed_rounds.proofs.Packed.{packed_full}
use Rattle.law_packed_rounds.proofs.laws.rounds_are_full.Goals as goal

pub returns : goal.returns
returns c = packed_full
