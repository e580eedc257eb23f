use Rattle.std.proofs.Common.{◌≡◌, ◌↔◌, Bool, true, IsTrue, List, sym, ◌∙◌, subst}
use Rattle.std.specs.Prelude.{slice_get, Some}
use Rattle.flow_rules.specs.Tables.{rules_of_all}
use Rattle.update_model.specs.Mixtures.{Rollout}
use Rattle.law_two_way_runs.specs.States.{MayUndo}
use Rattle.two_way_replay.specs.Courses.{CourseState}
use Rattle.two_way_replay.specs.CourseWorlds.{CourseWorld}
use Rattle.two_way_replay.proofs.MayLaws.{undoes_running}
use Rattle.two_way_replay.proofs.world.TwoWayWorld.can_undo.Goals as goal
use Rattle.two_way_replay.proofs.world.TwoWayWorld.can_undo.Goals.{then-self, else-self}

pub returns-then-is_running : goal.returns-then-is_running
returns-then-is_running c =
    let i = c.self.inside in
    let inner : CourseState = record {
      state = record { phase = i.phase; tables = rules_of_all i.tables; in_force = i.in_force.items; settles = i.travellers.settled; packets = i.travellers.packets };
      is_undone = i.is_undone;
      taken_back = i.taken_back.items;
    } in
    let u : Rollout = record { net = i.net.now; old = rules_of_all i.before.now; rounds = i.rounds.now } in
    let on : IsTrue c.has_flag.result ↔ (slice_get i.in_force.items c.args.i ≡ Some true) =
    subst (λ (l : List Bool). IsTrue c.has_flag.result ↔ (slice_get l c.args.i ≡ Some true)) c.deref.ensures.value c.has_flag.ensures in
    elim c.if-self.branch [
      | then-self w ↦ (
          let k = w.is_running.ensures.0 (sym w.value-is ∙ c.if-is_running.true) in
          subst (λ (w : CourseWorld). IsTrue c.has_flag.result ↔ ((w.course.is_undone ≡ true) × MayUndo w.update w.course.state c.args.i)) c.self.view_is
          (undoes_running u inner c.args.i c.has_flag.result k.0 w.if-self.true k.1 c.self.invariant.0.phase on))
      | else-self w ↦ absurd (let is = w.value-is in let on = c.if-is_running.true in cc)
    ]
