use Rattle.std.proofs.Common.{◌≡◌, ◌↔◌, Bool, false, IsTrue, List, subst}
use Rattle.std.specs.Prelude.{slice_get, Some}
use Rattle.flow_rules.specs.Tables.{rules_of_all}
use Rattle.update_model.specs.Mixtures.{Rollout}
use Rattle.update_model.specs.Worlds.{AppliesAt, running_round}
use Rattle.update_model.specs.declared.Change.{Change}
use Rattle.law_two_way_runs.specs.States.{MayChange}
use Rattle.two_way_replay.specs.Courses.{CourseState}
use Rattle.two_way_replay.specs.CourseWorlds.{CourseWorld}
use Rattle.two_way_replay.proofs.MayLaws.{changes_running}
use Rattle.two_way_replay.proofs.world.TwoWayWorld.can_change.Goals as goal

pub returns-then-has_flag : goal.returns-then-has_flag
returns-then-has_flag c =
    let i = c.self.inside in
    let inner : CourseState = record {
      state = record { phase = i.phase; tables = rules_of_all i.tables; in_force = i.in_force.items; settles = i.travellers.settled; packets = i.travellers.packets };
      is_undone = i.is_undone;
      taken_back = i.taken_back.items;
    } in
    let u : Rollout = record { net = i.net.now; old = rules_of_all i.before.now; rounds = i.rounds.now } in
    let off : slice_get i.in_force.items c.args.i ≡ Some false =
    subst (λ (l : List Bool). slice_get l c.args.i ≡ Some false) c.deref.ensures.value (c.has_flag.ensures.0 c.if-has_flag.true) in
    let applies : IsTrue c.can_apply.result ↔ AppliesAt (rules_of_all i.tables) (running_round i.phase i.rounds.now) c.args.i =
    subst (λ (l : List Change). IsTrue c.can_apply.result ↔ AppliesAt (rules_of_all i.tables) l c.args.i) c.round_of.ensures c.can_apply.ensures in
    subst (λ (w : CourseWorld). IsTrue c.can_apply.result ↔ MayChange w.update w.course.state c.args.i) c.self.view_is
    (changes_running u inner c.args.i c.can_apply.result off applies)
