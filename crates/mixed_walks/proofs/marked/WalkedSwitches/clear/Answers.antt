use Rattle.std.proofs.Common.{List, vec_capacity, sym, subst, arith}
use Rattle.net_base.specs.declared.ids.SwitchId.{SwitchId}
use Rattle.mixed_walks.specs.Marked.{IsSwitchList}
use Rattle.mixed_walks.proofs.MarkedLaws.{switches_none}
use Rattle.mixed_walks.proofs.marked.WalkedSwitches.clear.Goals as goal

pub invariant_of-self : goal.invariant_of-self
invariant_of-self c =
    let e = c.clear.ensures.capacity in
    let room = c.self.invariant.room in
    subst (λ (xs : List SwitchId). IsSwitchList xs (vec_capacity c.clear.new.self) c.none-self-inside.result) (sym c.clear.ensures.items)
    (switches_none (vec_capacity c.clear.new.self) c.none-self-inside.result (omega arith) c.none-self-inside.ensures)
