use Rattle.std.proofs.Common.{◌↔◌, List, sym, subst}
use Rattle.net_base.specs.Members.{IsIn}
use Rattle.net_base.specs.declared.ids.SwitchId.{SwitchId}
use Rattle.net_base.specs.declared.ids.Place.{Place}
use Rattle.mixed_walks.specs.Walks.{switches_of}
use Rattle.mixed_walks.proofs.reached.ReachedPlaces.switches.Goals as goal

pub returns-clause-seen : goal.returns-clause-seen
returns-clause-seen c s =
    subst (λ (xs : List SwitchId). IsIn s xs ↔ IsIn s (switches_of c.args.self.now)) (sym c.list.ensures.value)
    (subst (λ (ps : List Place). IsIn s c.self.inside.switches ↔ IsIn s (switches_of ps)) c.self.view_is (c.self.invariant.0.seen s))
