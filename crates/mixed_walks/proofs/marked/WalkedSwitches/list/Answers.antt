use Rattle.std.proofs.Common.{ℕ, ◌<◌, List, length, get_or, sym, subst}
use Rattle.net_base.specs.declared.ids.SwitchId.{SwitchId}
use Rattle.net_base.specs.Switches.{most_switches}
use Rattle.net_base.proofs.ItemLaws.{in_at}
use Rattle.net_base.proofs.MemberLaws.{each_at}
use Rattle.mixed_walks.proofs.marked.WalkedSwitches.list.Goals as goal

pub returns-clause-near : goal.returns-clause-near
returns-clause-near c =
    let list = c.self.inside.list.items in
    subst (λ (xs : List SwitchId). (k : ℕ) (d : SwitchId) → k < length xs → (get_or xs k d).0 < most_switches) (sym c.deref.ensures.value)
    (λ k d within. each_at (λ (s : SwitchId). s.0 < most_switches) list (get_or list k d) c.self.invariant.near (in_at list k d within))
