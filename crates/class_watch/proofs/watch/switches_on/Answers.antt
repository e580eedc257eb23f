use Rattle.net_base.specs.declared.ids.Place.{Place}
use Rattle.net_base.proofs.MemberLaws.{in_map}
use Rattle.class_watch.proofs.watch.switches_on.Goals as goal

pub returns-clause-each : goal.returns-clause-each
returns-clause-each c = λ s. (λ on. (c.switches.ensures.seen s).0 ((c.of.ensures s).0 on), λ i. (c.of.ensures s).1 ((c.switches.ensures.seen s).1 i))

pub returns-clause-held : goal.returns-clause-held
returns-clause-held c = λ u k class walked place on.
    let i = in_map (λ (p : Place). p.switch) place c.args.walk.now.places ((walked.places place).1 on) in
    (c.of.ensures place.switch).1 ((c.switches.ensures.seen place.switch).1 i)

pub returns-clause-together : goal.returns-clause-together
returns-clause-together c = λ u k class vlan together entry place on.
    let i = in_map (λ (p : Place). p.switch) place c.args.walk.now.places ((together.covers class.entry entry).places place on) in
    (c.of.ensures place.switch).1 ((c.switches.ensures.seen place.switch).1 i)
