use Rattle.law_packed_rounds.proofs.Packed.{one_enough, one_needed}
use Rattle.law_packed_rounds.proofs.laws.one_round_where_one_is_enough.Goals as goal

pub returns-clause-enough : goal.returns-clause-enough
returns-clause-enough c = one_enough

pub returns-clause-needed : goal.returns-clause-needed
returns-clause-needed c = one_needed
