use Rattle.std.proofs.Common.{◌≡◌, ◌<◌, ◌∙◌, List, subst, sym, ap}
use Rattle.std.specs.Prelude.{Option, None}
use Rattle.net_base.specs.Walks.{end_of}
use Rattle.net_base.specs.declared.ids.Place.{Place}
use Rattle.topology.specs.Networks.{switch_count}
use Rattle.path_walk.proofs.StayLaws.{entry_within}
use Rattle.path_walk.specs.declared.Outcome.{Outcome}
use Rattle.counter_run.specs.Showing.{shown_rollout}
use Rattle.counter_run.specs.Steps.{GoOnAlong, GoOnBy}
use Rattle.counter_run.proofs.StageLaws.{end_inside, along_end, on_ok}
use Rattle.counter_run.proofs.showing.add_walk.Goals as goal

pub add_hop-requires-clause-inside : goal.add_hop-requires-clause-inside
add_hop-requires-clause-inside c =
    let last : c.in_ok-last.last ≡ end_of c.args.class.entry c.args.walk.now.rest = c.in_ok-last.ensures.last ∙ ap (end_of c.args.class.entry) c.list.ensures in
    subst (λ (p : Place). p.switch.0 < switch_count c.args.stage.round.net.now) (sym last)
    (end_inside (shown_rollout c.args.stage) c.keeps_rules.ensures c.args.stage.round.number c.args.class.first c.args.class.entry c.args.walk.now.rest
    (entry_within c.args.stage.round.net.now c.keeps_rules.ensures c.args.class.entry c.requires.entry) c.requires.walk)

pub returns-in-Some : goal.returns-in-Some
returns-in-Some c =
    let u = shown_rollout c.args.stage in
    let k = c.args.stage.round.number in
    let rest = c.args.walk.now.rest in
    let last : c.in_ok-last.last ≡ end_of c.args.class.entry rest = c.in_ok-last.ensures.last ∙ ap (end_of c.args.class.entry) c.list.ensures in
    let along = subst (λ (xs : List Place). GoOnAlong u k c.args.class xs None c.args.events.now c.add_hops.new.events) c.list.ensures c.in_ok-last.ensures.along in
    on_ok c.add_hop.result _ _
    (λ (by : GoOnBy u k c.args.class.first c.in_ok-last.last c.in-Some.end c.add_hops.new.events c.add_hop.new.events).
    subst (λ (end : Option Outcome). GoOnAlong u k c.args.class rest end c.args.events.now c.add_hop.new.events) (sym c.in-Some.is)
    (along_end u k c.args.class c.args.events.now rest c.add_hops.new.events c.add_hop.new.events along c.in-Some.end
    (subst (λ (p : Place). GoOnBy u k c.args.class.first p c.in-Some.end c.add_hops.new.events c.add_hop.new.events) last by)))
    c.add_hop.ensures

pub returns-in-None : goal.returns-in-None
returns-in-None c =
    let u = shown_rollout c.args.stage in
    let k = c.args.stage.round.number in
    subst (λ (end : Option Outcome). GoOnAlong u k c.args.class c.args.walk.now.rest end c.args.events.now c.add_hops.new.events) (sym c.in-None.is)
    (subst (λ (xs : List Place). GoOnAlong u k c.args.class xs None c.args.events.now c.add_hops.new.events) c.list.ensures c.in_ok-last.ensures.along)
