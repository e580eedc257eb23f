use Rattle.std.proofs.Common.{◌≡◌, suc, ◌+◌, subst, arith}
use Rattle.update_model.specs.Worlds.{AreCounted}
use Rattle.update_model.proofs.CountLaws.{counted_settle}
use Rattle.two_way_replay.proofs.travellers.Travellers.settle.Goals as goal

pub invariant_of-self : goal.invariant_of-self
invariant_of-self c =
    let t = c.self.inside in
    let next : suc t.settled ≡ t.settled + 1 = omega arith in
    subst (λ k. AreCounted t.packets.items k t.under_way t.under_way) next (counted_settle t.packets.items t.settled t.under_way t.older c.self.invariant)
