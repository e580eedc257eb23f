use Rattle.std.proofs.Common.{List, Bool, length, ap, ◌∙◌}
use Rattle.waypoint_evidence.specs.Befores.{marked_from}
use Rattle.waypoint_evidence.proofs.MarkLaws.{length_marks}
use Rattle.waypoint_evidence.proofs.Before.marks.Goals as goal

pub returns-clause-value : goal.returns-clause-value
returns-clause-value c = ap (λ (marks : List Bool). marked_from 0 marks) c.marks_of.ensures ∙ c.self.view_is

pub returns-clause-len : goal.returns-clause-len
returns-clause-len c = ap (λ (marks : List Bool). length marks) c.marks_of.ensures ∙ length_marks c.self.inside.switches
