use Rattle.law_packed_rounds.proofs.Packed.{packed_once, ordered_once, stuck_once, ordered_or_stuck}
use Rattle.law_packed_rounds.proofs.laws.packing_ends_once.Goals as goal

pub returns-clause-round : goal.returns-clause-round
returns-clause-round c = packed_once

pub returns-clause-ordered : goal.returns-clause-ordered
returns-clause-ordered c = ordered_once

pub returns-clause-stuck : goal.returns-clause-stuck
returns-clause-stuck c = stuck_once

pub returns-clause-either : goal.returns-clause-either
returns-clause-either c = ordered_or_stuck
