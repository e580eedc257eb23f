use Rattle.flow_rules.proofs.TupleLaws.{space_complete}
use Rattle.flow_rules.proofs.tuple_space.TupleSpace.kinds.Goals as goal

pub returns-clause-complete : goal.returns-clause-complete
returns-clause-complete c =
    rw (← c.self.view_is) (space_complete _ _ _ _ c.self.invariant)
