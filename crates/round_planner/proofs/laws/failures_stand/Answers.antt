use Rattle.update_model.specs.Changes.{tables_after}
use Rattle.round_planner.proofs.FailureLaws.{room_there, never_room, never_safe}
use Rattle.round_planner.proofs.laws.failures_stand.Goals as goal

pub returns-clause-table : goal.returns-clause-table
returns-clause-table c = λ to tables d none changes apart q. never_room to.net d changes tables none apart (room_there to.net (tables_after changes tables) d q.stands)

pub returns-clause-class : goal.returns-clause-class
returns-clause-class c = λ to tables d class rules keeps never changes apart. never_safe to d keeps class changes tables rules apart never
