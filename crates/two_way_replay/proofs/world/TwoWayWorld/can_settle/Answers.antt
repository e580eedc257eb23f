use Rattle.std.proofs.Common.{◌≡◌, ◌↔◌, Bool, not, IsTrue, List, subst}
use Rattle.std.specs.List.{AllByRecursion}
use Rattle.flow_rules.specs.Tables.{rules_of_all}
use Rattle.two_way_replay.specs.Courses.{CourseState, MaySettleEither}
use Rattle.two_way_replay.specs.CourseWorlds.{CourseWorld}
use Rattle.two_way_replay.proofs.MayLaws.{settles_running}
use Rattle.two_way_replay.proofs.world.TwoWayWorld.can_settle.Goals as goal

pub returns-then-is_running : goal.returns-then-is_running
returns-then-is_running c =
    let i = c.self.inside in
    let inner : CourseState = record {
      state = record { phase = i.phase; tables = rules_of_all i.tables; in_force = i.in_force.items; settles = i.travellers.settled; packets = i.travellers.packets };
      is_undone = i.is_undone;
      taken_back = i.taken_back.items;
    } in
    let k = c.is_running.ensures.0 c.if-is_running.true in
    let all : IsTrue c.are_all.result ↔ AllByRecursion (λ b. b ≡ not i.is_undone) i.in_force.items =
    subst (λ (l : List Bool). IsTrue c.are_all.result ↔ AllByRecursion (λ b. b ≡ not i.is_undone) l) c.deref.ensures.value c.are_all.ensures in
    subst (λ (w : CourseWorld). IsTrue c.are_all.result ↔ MaySettleEither w.course.is_undone w.course.state) c.self.view_is
    (settles_running inner i.rounds.now c.are_all.result k.0 k.1 c.self.invariant.0.phase all)
