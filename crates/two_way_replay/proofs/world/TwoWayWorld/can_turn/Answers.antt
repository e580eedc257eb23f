use Rattle.std.proofs.Common.{◌↔◌, ◌⊎◌, IsTrue, subst}
use Rattle.flow_rules.specs.Tables.{rules_of_all}
use Rattle.law_two_way_runs.specs.States.{MayTurnBack}
use Rattle.two_way_replay.specs.Courses.{CourseState, GoesForward}
use Rattle.two_way_replay.specs.CourseWorlds.{CourseWorld}
use Rattle.two_way_replay.proofs.MayLaws.{turns_settled}
use Rattle.two_way_replay.proofs.world.TwoWayWorld.can_turn.Goals as goal

pub returns-then-k-gt0 : goal.returns-then-k-gt0
returns-then-k-gt0 c =
    let i = c.self.inside in
    let inner : CourseState = record {
      state = record { phase = i.phase; tables = rules_of_all i.tables; in_force = i.in_force.items; settles = i.travellers.settled; packets = i.travellers.packets };
      is_undone = i.is_undone;
      taken_back = i.taken_back.items;
    } in
    subst (λ (w : CourseWorld). IsTrue c.has_none_older.result ↔ (GoesForward w.course ⊎ MayTurnBack w.course.state)) c.self.view_is
    (turns_settled inner c.in-Settled.k c.has_none_older.result c.in-Settled.is c.if-k-gt0.true c.has_none_older.ensures)
