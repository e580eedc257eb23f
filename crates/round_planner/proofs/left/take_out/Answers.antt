use Rattle.std.proofs.Common.{◌≡◌, ◌<◌, ◌∷◌, List, length, get_or, refl, sym, ◌∙◌, ap, inl, subst, arith}
use Rattle.std.proofs.lemmas.List.{with_items_is, get_or_at}
use Rattle.std.specs.Vec.{with_items}
use Rattle.std.specs.List.{AllByRecursion}
use Rattle.net_base.specs.Members.{IsIn}
use Rattle.net_base.proofs.MemberLaws.{each_at, in_append_right}
use Rattle.update_model.specs.Changes.{switch_of, tables_after_change}
use Rattle.round_planner.specs.Failures.{HasStanding, IsOfUsers}
use Rattle.round_planner.specs.declared.left.RemainingChange.{RemainingChange}
use Rattle.round_planner.proofs.LeftLaws.{each_remove}
use Rattle.round_planner.proofs.left.take_out.Goals as goal

pub returns-clause-stands : goal.returns-clause-stands
returns-clause-stands c = λ front back one are at_place to tables users stands.
    let made : RemainingChange = c.remove-made.result in
    let all : List RemainingChange = c.args.left.now.items in
    let new = c.forget_touched.new.left in
    let same : (with_items c.remove-made.new.self new).items ≡ new = with_items_is c.remove-made.new.self new (omega arith) in
    let is : made ≡ one = c.remove-made.ensures.value ∙ ap (λ (xs : List RemainingChange). get_or xs c.args.place made) are ∙ get_or_at front one back made c.args.place at_place in
    let i : IsIn one all = subst (IsIn one) (sym are) (in_append_right one front (one ∷ back) (inl refl)) in
    let within = (each_at (IsOfUsers tables) all one users i).within in
    let lent = c.deref_mut.ensures.value ∙ c.remove-made.ensures.items in
    subst (AllByRecursion (HasStanding to (tables_after_change one.change tables))) (sym same)
    (subst (λ (x : RemainingChange). AllByRecursion (HasStanding to (tables_after_change x.change tables)) new) is
    (c.forget_touched.ensures.stands to tables (subst (AllByRecursion (IsOfUsers tables)) (sym lent) (each_remove (IsOfUsers tables) all c.args.place users))
    (subst (λ (x : RemainingChange). (switch_of x.change).0 < length tables) (sym is) within)
    (subst (AllByRecursion (HasStanding to tables)) (sym lent) (each_remove (HasStanding to tables) all c.args.place stands))))
