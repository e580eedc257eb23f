use Rattle.std.proofs.Common.{sym, ◌∙◌}
use Rattle.round_mix.proofs.nearest.is_met.Goals as goal

pub returns-clause-yes : goal.returns-clause-yes
returns-clause-yes c on = (c.if-position-from.false, sym c.covers_there.ensures ∙ on)

pub returns-clause-no : goal.returns-clause-no
returns-clause-no c off lo = sym c.covers_there.ensures ∙ off
