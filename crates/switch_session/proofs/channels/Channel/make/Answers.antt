use Rattle.std.proofs.Common.{ap, ◌∙◌}
use Rattle.switch_session.specs.Fronts.{front_of}
use Rattle.switch_session.proofs.TalkLaws.{front_nil}
use Rattle.switch_session.proofs.channels.Channel.make.Goals as goal

pub invariant_of-result : goal.invariant_of-result
invariant_of-result c = ap front_of c.new.ensures.items ∙ front_nil
