use Rattle.std.proofs.Common.{List, vec_capacity, sym, subst}
use Rattle.net_base.specs.declared.ids.SwitchId.{SwitchId}
use Rattle.mixed_walks.specs.Marked.{IsSwitchList}
use Rattle.mixed_walks.proofs.MarkedLaws.{switches_none}
use Rattle.mixed_walks.proofs.marked.WalkedSwitches.make.Goals as goal

pub invariant_of-result : goal.invariant_of-result
invariant_of-result c =
    subst (λ (xs : List SwitchId). IsSwitchList xs (vec_capacity c.in_ok-with_capacity.field-0) c.none.result) (sym c.in_ok-with_capacity.ensures.items)
    (switches_none (vec_capacity c.in_ok-with_capacity.field-0) c.none.result c.in_ok-with_capacity.ensures.capacity c.none.ensures)
