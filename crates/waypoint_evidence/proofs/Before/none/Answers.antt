use Rattle.waypoint_evidence.proofs.MarkLaws.{none_marked}
use Rattle.waypoint_evidence.proofs.Before.none.Goals as goal

pub returns : goal.returns
returns c = none_marked c.none.result c.none.ensures
