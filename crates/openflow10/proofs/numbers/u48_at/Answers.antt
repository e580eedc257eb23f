use Rattle.std.proofs.Common.{◌∙◌}
use Rattle.openflow10.proofs.NumberLaws.{number_at-part}
use Rattle.openflow10.proofs.numbers.u48_at.Goals as goal

pub returns : goal.returns
returns c = c.read_u48.ensures ∙ number_at-part c.args.offset 6 c.args.bytes.now
