use Rattle.certificates.specs.Updates.{rollout}
use Rattle.std.proofs.Common.{◌↔◌, ◌<◌, ◌+◌, length, sym, subst, ap}
use Rattle.std.proofs.lemmas.Option.{slice_get-get_or}
use Rattle.net_base.specs.Members.{IsIn}
use Rattle.topology.specs.Networks.{Network, switch_count}
use Rattle.flow_rules.specs.Tables.{rules_at}
use Rattle.path_walk.specs.declared.Outcome.{Outcome}
use Rattle.update_model.specs.Changes.{changes_at, round_after}
use Rattle.update_model.specs.Mixtures.{MayBe, tables_before}
use Rattle.check_reasons.specs.Cases.{CaseView}
use Rattle.two_phase_check.specs.Agreements.{RoundView, AreAllFound}
use Rattle.two_phase_check.proofs.StrayLaws.{prepared_some, prepared_few, prepared_is}
use Rattle.two_phase_check.proofs.straying.find_outcomes.Goals as goal

pub possible-requires-clause-prepared : goal.possible-requires-clause-prepared
possible-requires-clause-prepared c =
    let u = (rollout c.round.inside.case.now.task) in
    let within : c.args.place.switch.0 < length c.round.inside.mixes.now =
    subst (λ n. c.args.place.switch.0 < n) (sym c.round.invariant.count) (subst (λ (v : RoundView). c.args.place.switch.0 < switch_count v.task.update.net) (sym c.round.view_is) c.requires.switch) in
    prepared_some u c.round.inside.number c.round.inside.mixes.now c.round.invariant c.args.place.switch _
    (slice_get-get_or c.round.inside.mixes.now c.args.place.switch.0 c.index-round-place.result within)

pub possible-requires-clause-room : goal.possible-requires-clause-room
possible-requires-clause-room c =
    let u = (rollout c.round.inside.case.now.task) in
    let within : c.args.place.switch.0 < length c.round.inside.mixes.now =
    subst (λ n. c.args.place.switch.0 < n) (sym c.round.invariant.count) (subst (λ (v : RoundView). c.args.place.switch.0 < switch_count v.task.update.net) (sym c.round.view_is) c.requires.switch) in
    prepared_few u c.round.inside.number c.round.inside.mixes.now c.round.invariant c.args.place.switch _
    (slice_get-get_or c.round.inside.mixes.now c.args.place.switch.0 c.index-round-place.result within)
    (length c.args.room.now.list + c.args.room.now.spare) c.requires.room

pub returns-clause-all : goal.returns-clause-all
returns-clause-all c =
    let u = (rollout c.round.inside.case.now.task) in
    let within : c.args.place.switch.0 < length c.round.inside.mixes.now =
    subst (λ n. c.args.place.switch.0 < n) (sym c.round.invariant.count) (subst (λ (v : RoundView). c.args.place.switch.0 < switch_count v.task.update.net) (sym c.round.view_is) c.requires.switch) in
    let is = prepared_is u c.round.inside.number c.round.inside.mixes.now c.round.invariant c.args.place.switch _
    (slice_get-get_or c.round.inside.mixes.now c.args.place.switch.0 c.index-round-place.result within) in
    subst (λ (v : RoundView). AreAllFound (rollout v.task) v.number c.args.dst c.args.place c.possible.new.out.list) c.round.view_is
    (subst (λ (net : Network). (found : Outcome) → IsIn found c.possible.new.out.list ↔ MayBe net (rules_at (tables_before u c.round.inside.number) c.args.place.switch) (changes_at c.args.place.switch (round_after c.round.inside.number u.rounds)) c.args.place c.args.dst found)
    (ap (λ (v : CaseView). v.task.update.net) c.case.view_is) (c.possible.ensures.exact _ _ is))
