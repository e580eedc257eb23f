use Rattle.std.proofs.Common.{◌∙◌}
use Rattle.openflow10.proofs.NumberLaws.{number_at-part}
use Rattle.openflow10.proofs.numbers.u64_at.Goals as goal

pub returns : goal.returns
returns c = c.read_u64.ensures ∙ number_at-part c.args.offset 8 c.args.bytes.now
