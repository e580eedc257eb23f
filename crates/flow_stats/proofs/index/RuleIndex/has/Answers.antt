use Rattle.std.proofs.Common.{ap, ◌∙◌}
use Rattle.flow_stats.specs.Index.{has_mark}
use Rattle.flow_stats.proofs.MarkLaws.{same_marks}
use Rattle.flow_stats.proofs.index.RuleIndex.has.Goals as goal

pub returns : goal.returns
returns c = c.contains.ensures ∙ same_marks c.args.mark c.self.inside.marks.keys ∙ ap (λ ms. has_mark ms c.args.mark) c.self.view_is
