-- Where a search stands.
use Rattle.std.specs.Prelude.{List, length}
use Rattle.flow_rules.specs.declared.rules.Rule.{Rule}
use Rattle.update_model.specs.declared.Change.{Change}
use Rattle.certificates.specs.declared.OrderedEvidence.{OrderedEvidence}
use Rattle.table_difference.specs.Targets.{Target}
use Rattle.round_judge.specs.Evidence.{HasEvidenceTo}
use Rattle.round_planner.specs.Search.{update_by, AreFirstQualifying}

-- where the search stands after these changes: each is the first that qualified, and the evidence is that of the search
pub record Stands (to : Target) (old : List (List Rule)) (changes : List Change) (e : OrderedEvidence) : Type 0 where
  pub found : AreFirstQualifying to old changes
  pub so_far : HasEvidenceTo to (update_by to old changes) (length changes) e
