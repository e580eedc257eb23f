use Rattle.std.proofs.Common.{◌≡◌, ◌<◌, length, sym, subst}
use Rattle.std.specs.Prelude.{slice_get, Option, Some, List}
use Rattle.flow_rules.specs.Tables.{rules_of_all}
use Rattle.flow_rules.specs.declared.rules.Action.{Action}
use Rattle.update_model.specs.Mixtures.{Rollout, tables_before}
use Rattle.update_model.specs.States.{settled_count}
use Rattle.update_model.specs.Worlds.{running_round}
use Rattle.update_model.specs.declared.Change.{Change}
use Rattle.two_way_replay.specs.CourseWorlds.{CourseWorld, AreKnown}
use Rattle.two_way_replay.specs.Entries.{action_named, earlier_actions}
use Rattle.two_way_replay.proofs.MayLaws.{known_round, known_change, known_action}
use Rattle.two_way_replay.proofs.world.TwoWayWorld.earlier_action.Goals as goal

pub action-requires-clause-round : goal.action-requires-clause-round
action-requires-clause-round c =
    let i = c.self.inside in
    let u : Rollout = record { net = i.net.now; old = rules_of_all i.before.now; rounds = i.rounds.now } in
    let known : c.in-Some.earlier ≡ earlier_actions u.old u.rounds =
    subst (λ (o : Option (List (List (Option Action)))). AreKnown u.old u.rounds i.is_undone o) c.in-Some.is c.self.invariant.1 in
    known_round u i.phase i.in_force.items c.in-Running.k c.args.i c.in-Some.earlier c.in-Running.is c.self.invariant.0.phase known

pub action-requires-clause-change : goal.action-requires-clause-change
action-requires-clause-change c =
    let i = c.self.inside in
    let u : Rollout = record { net = i.net.now; old = rules_of_all i.before.now; rounds = i.rounds.now } in
    let known : c.in-Some.earlier ≡ earlier_actions u.old u.rounds =
    subst (λ (o : Option (List (List (Option Action)))). AreKnown u.old u.rounds i.is_undone o) c.in-Some.is c.self.invariant.1 in
    let less : c.args.i < length (running_round i.phase u.rounds) =
    subst (λ (w : CourseWorld). c.args.i < length (running_round w.course.state.phase w.update.rounds)) (sym c.self.view_is) c.requires.change in
    known_change u i.phase i.in_force.items c.in-Running.k c.args.i c.in-Some.earlier c.in-Running.is c.self.invariant.0.phase known less

pub returns : goal.returns
returns c =
    let i = c.self.inside in
    let u : Rollout = record { net = i.net.now; old = rules_of_all i.before.now; rounds = i.rounds.now } in
    let known : c.in-Some.earlier ≡ earlier_actions u.old u.rounds =
    subst (λ (o : Option (List (List (Option Action)))). AreKnown u.old u.rounds i.is_undone o) c.in-Some.is c.self.invariant.1 in
    subst (λ (w : CourseWorld). (x : Change) → slice_get (running_round w.course.state.phase w.update.rounds) c.args.i ≡ Some x
    → c.action.result ≡ action_named (tables_before w.update (settled_count w.course.state.phase)) x) c.self.view_is
    (known_action u i.phase i.in_force.items c.in-Running.k c.args.i c.in-Some.earlier c.in-Running.is c.self.invariant.0.phase known c.action.result c.action.ensures)
