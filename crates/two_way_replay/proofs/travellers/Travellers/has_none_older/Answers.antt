use Rattle.std.proofs.Common.{◌≤◌, sym, subst}
use Rattle.std.specs.List.{AllByRecursion}
use Rattle.std.proofs.lemmas.Bool.{eqb-true, eq-eqb}
use Rattle.update_model.specs.States.{IsUnderWay}
use Rattle.update_model.specs.Worlds.{TrafficState}
use Rattle.update_model.proofs.CountLaws.{none_late, zero_late}
use Rattle.two_way_replay.proofs.travellers.Travellers.has_none_older.Goals as goal

pub returns : goal.returns
returns c =
    let t = c.self.inside in (
      λ e. subst (λ (s : TrafficState). AllByRecursion (λ p. IsUnderWay p → s.settled ≤ p.born) s.packets) c.self.view_is
          (none_late t.packets.items t.settled t.under_way t.older c.self.invariant (eqb-true t.older 0 e)),
      λ h. eq-eqb t.older 0 (zero_late t.packets.items t.settled t.under_way t.older c.self.invariant
          (subst (λ (s : TrafficState). AllByRecursion (λ p. IsUnderWay p → s.settled ≤ p.born) s.packets) (sym c.self.view_is) h)),
    )
