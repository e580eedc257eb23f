use Rattle.std.proofs.Common.{◌≡◌, ◌↔◌, ◌⊎◌, ◌≤◌, ◌∷◌, ◌++◌, [], List, sym, ◌∙◌, subst, vec_capacity, arith}
use Rattle.net_base.specs.Members.{IsIn}
use Rattle.net_base.specs.declared.ids.SwitchId.{SwitchId}
use Rattle.mixed_walks.specs.Marked.{IsSwitchList}
use Rattle.mixed_walks.proofs.MarkedLaws.{in_push, in_still, switch_fits, switches_more}
use Rattle.mixed_walks.proofs.marked.WalkedSwitches.put.Goals as goal

pub push_reserved-requires : goal.push_reserved-requires
push_reserved-requires c =
    let list = c.self.inside.list in
    let room = switch_fits list.items (vec_capacity list) c.self.inside.set c.self.invariant c.args.switch c.requires (sym c.has.ensures ∙ c.if-not-has.true) in
    let len = list.ok.0 in
    omega arith

pub invariant_of-self : goal.invariant_of-self
invariant_of-self c =
    let list = c.self.inside.list in
    let set = c.self.inside.set in
    let s = c.args.switch in
    let room : vec_capacity list ≤ vec_capacity c.push_reserved.new.self = let e = c.push_reserved.ensures.capacity in omega arith in
    subst (λ (xs : List SwitchId). IsSwitchList xs (vec_capacity c.push_reserved.new.self) c.put.new.self) (sym c.push_reserved.ensures.items)
    (switches_more list.items (vec_capacity list) set c.self.invariant s c.requires (sym c.has.ensures ∙ c.if-not-has.true)
    (vec_capacity c.push_reserved.new.self) c.put.new.self room c.put.ensures.there c.put.ensures.others)

pub returns-then-not-has : goal.returns-then-not-has
returns-then-not-has c s =
    subst (λ (xs : List SwitchId). IsIn s xs ↔ (IsIn s c.args.self.now ⊎ (s ≡ c.args.switch))) (sym c.push_reserved.ensures.items)
    (subst (λ (xs : List SwitchId). IsIn s (c.self.inside.list.items ++ c.args.switch ∷ []) ↔ (IsIn s xs ⊎ (s ≡ c.args.switch))) c.self.view_is
    (in_push c.self.inside.list.items c.args.switch s))

pub returns-else-not-has : goal.returns-else-not-has
returns-else-not-has c s =
    let t = c.args.switch in
    let is_in : IsIn t c.self.inside.list.items = (c.self.invariant.members t).0 (sym c.has.ensures ∙ c.if-not-has.false) in
    in_still c.args.self.now t s (subst (λ (xs : List SwitchId). IsIn t xs) c.self.view_is is_in)
