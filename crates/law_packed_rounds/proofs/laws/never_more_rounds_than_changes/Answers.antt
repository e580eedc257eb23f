use Rattle.law_packed_rounds.proofs.Packed.{never_more}
use Rattle.law_packed_rounds.proofs.laws.never_more_rounds_than_changes.Goals as goal

pub returns : goal.returns
returns c = never_more
