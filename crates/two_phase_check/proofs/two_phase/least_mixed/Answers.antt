use Rattle.certificates.specs.Updates.{rollout}
use Rattle.std.proofs.Common.{◌+◌, List, Option, take, sym, subst}
use Rattle.std.proofs.lemmas.List.{take_all}
use Rattle.net_base.specs.declared.ids.SwitchId.{SwitchId}
use Rattle.path_walk.specs.declared.Outcome.{Outcome}
use Rattle.two_phase_check.specs.Agreements.{AreAllFound}
use Rattle.two_phase_check.proofs.FollowLaws.{IsLeastAmong, among_more, class_kept, class_least}
use Rattle.two_phase_check.proofs.two_phase.least_mixed.Goals as goal

pub loop-found-preserved : goal.loop-found-preserved
loop-found-preserved c =
    let t = c.args.round.now.task in
    let k = c.args.round.now.number in
    let list = c.list-outcomes.result.now in
    record {
      among = subst (λ (o : Option SwitchId). IsLeastAmong t k c.args.class c.args.round.now.labels (take (c.loop-found.found-index + 1) list) o) (sym c.lesser-least.ensures)
          (among_more t k c.args.class c.args.round.now.labels list c.loop-found.found-index _ c.loop-found.least c.mixed_by.result c.loop-found-test.true c.loop-found.invariant.among c.mixed_by.ensures.none c.mixed_by.ensures.some);
      room = c.mixed_by.ensures.room;
      known = c.mixed_by.ensures.known;
    }

pub returns-clause-none : goal.returns-clause-none
returns-clause-none c =
    let t = c.args.round.now.task in
    let k = c.args.round.now.number in
    let list = c.list-outcomes.result.now in
    class_kept t k c.args.class c.args.round.now.labels list
    (subst (λ (xs : List Outcome). AreAllFound (rollout t) k c.args.class.first c.args.class.entry xs) (sym c.list-outcomes.ensures) c.find_outcomes.ensures.all) c.loop-found.least
    (subst (λ (xs : List Outcome). IsLeastAmong t k c.args.class c.args.round.now.labels xs c.loop-found.least) (take_all c.loop-found.found-index list c.loop-found-test.false) c.loop-found.invariant.among)

pub returns-clause-some : goal.returns-clause-some
returns-clause-some c =
    let t = c.args.round.now.task in
    let k = c.args.round.now.number in
    let list = c.list-outcomes.result.now in
    class_least t k c.args.class c.args.round.now.labels list
    (subst (λ (xs : List Outcome). AreAllFound (rollout t) k c.args.class.first c.args.class.entry xs) (sym c.list-outcomes.ensures) c.find_outcomes.ensures.all) c.loop-found.least
    (subst (λ (xs : List Outcome). IsLeastAmong t k c.args.class c.args.round.now.labels xs c.loop-found.least) (take_all c.loop-found.found-index list c.loop-found-test.false) c.loop-found.invariant.among)
