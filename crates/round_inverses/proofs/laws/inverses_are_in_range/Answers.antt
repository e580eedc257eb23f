use Rattle.round_inverses.proofs.RangeLaws.{rounds_range}
use Rattle.round_inverses.proofs.laws.inverses_are_in_range.Goals as goal

pub returns : goal.returns
returns c = λ net old rounds tables plan. rounds_range net rounds old plan tables
