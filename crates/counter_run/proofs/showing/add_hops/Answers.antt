use Rattle.std.proofs.Common.{◌<◌, take, get_or, subst, sym, refl, arith}
use Rattle.net_base.specs.declared.ids.Place.{Place}
use Rattle.net_base.specs.declared.ids.Vlan.TheVariants as vlan
use Rattle.topology.specs.Networks.{switch_count}
use Rattle.path_walk.proofs.StayLaws.{entry_within}
use Rattle.path_walk.specs.declared.Outcome.TheVariants.{Go}
use Rattle.update_model.specs.Mixtures.{IsPossible, MayGo}
use Rattle.counter_run.specs.Showing.{shown_rollout}
use Rattle.counter_run.proofs.StageLaws.{walk_at, walk_take, end_more, end_inside, along_none, along_next}
use Rattle.counter_run.proofs.showing.add_hops.Goals as goal

-- what is read behind the end of a list of places
abbrev nowhere : Place
nowhere = record { switch = record { 0 = 0 }; port = record { 0 = 0 }; vlan = vlan.Untagged }

pub loop-next-init : goal.loop-next-init
loop-next-init c = record { place = refl; along = along_none (shown_rollout c.args.stage) c.args.stage.round.number c.args.class c.args.events.now }

pub add_hop-requires-clause-inside : goal.add_hop-requires-clause-inside
add_hop-requires-clause-inside c =
    let u = shown_rollout c.args.stage in
    subst (λ (p : Place). p.switch.0 < switch_count c.args.stage.round.net.now) (sym c.loop-next.invariant.place)
    (end_inside u c.keeps_rules.ensures c.args.stage.round.number c.args.class.first c.args.class.entry (take c.loop-next.next-index c.args.rest.now)
    (entry_within c.args.stage.round.net.now c.keeps_rules.ensures c.args.class.entry c.requires.entry)
    (walk_take (MayGo u c.args.stage.round.number c.args.class.first) c.args.class.entry c.args.rest.now c.loop-next.next-index c.requires.walk))

pub add_hop-requires-clause-possible : goal.add_hop-requires-clause-possible
add_hop-requires-clause-possible c =
    let u = shown_rollout c.args.stage in
    subst (λ (p : Place). IsPossible u c.args.stage.round.number c.args.class.first p (Go (get_or c.args.rest.now c.loop-next.next-index nowhere))) (sym c.loop-next.invariant.place)
    (walk_at (MayGo u c.args.stage.round.number c.args.class.first) c.args.class.entry c.args.rest.now c.loop-next.next-index nowhere c.requires.walk (omega arith))

pub loop-next-preserved : goal.loop-next-preserved
loop-next-preserved c = record {
  place = end_more c.args.class.entry c.args.rest.now c.loop-next.next-index nowhere (omega arith);
  along = along_next (shown_rollout c.args.stage) c.args.stage.round.number c.args.class c.args.events.now c.args.rest.now c.loop-next.next-index nowhere c.loop-next.place c.loop-next.events
      c.add_hop.new.events (omega arith) c.loop-next.invariant.place c.loop-next.invariant.along c.in_ok-add_hop.ensures;
}
