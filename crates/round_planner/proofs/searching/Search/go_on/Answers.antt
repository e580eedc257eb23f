use Rattle.std.proofs.Common.{◌≡◌, List, sym, ◌∙◌, subst, arith}
use Rattle.std.proofs.lemmas.List.{with_items_is}
use Rattle.std.specs.Vec.{with_items}
use Rattle.std.specs.List.{AllByRecursion}
use Rattle.path_walk.specs.UserConfigs.{IsUserConfig}
use Rattle.update_model.specs.Changes.{tables_after}
use Rattle.table_difference.specs.Targets.{Target}
use Rattle.round_planner.specs.Failures.{HasStanding, AreOfUsers, AreLeft}
use Rattle.round_planner.specs.Searching.{IsMadeAt, IsPlaced}
use Rattle.round_planner.specs.declared.left.RemainingChange.{RemainingChange}
use Rattle.round_planner.proofs.LeftLaws.{of_users, moved_on}
use Rattle.round_planner.proofs.searching.Search.go_on.Goals as goal

pub returns-in-Some : goal.returns-in-Some
returns-in-Some c = λ old changes user at are.
    let to = c.args.goal.now in
    let new_user = subst (λ (a : Target). IsUserConfig a.net a.new) c.goal.view_is c.goal.invariant.user in
    let new : List RemainingChange = c.take_first.new.left in
    let same : (with_items c.args.left.now new).items ≡ new = with_items_is c.args.left.now new (omega arith) in
    let lent = subst (AreLeft to (tables_after changes old)) (sym c.deref_mut.ensures.value) are in
    let (placed, standing) = c.in_ok-place.ensures.placed old changes user at lent in
    let here : AreLeft to (tables_after changes old) new = record { changes = c.in_ok-place.ensures.changes ∙ lent.changes; standing = standing } in
    let made : IsMadeAt to old changes c.take_first.new.self new c.in-Some.place = subst (IsPlaced to old changes c.take_first.new.self new) c.in-Some.is placed in
    let others = c.take_out.ensures.changes made.front made.back made.one (same ∙ made.are) made.at_place in
    let stands = c.take_out.ensures.stands made.front made.back made.one (same ∙ made.are) made.at_place to (tables_after changes old)
    (subst (AreOfUsers (tables_after changes old)) (sym same) (of_users to old user new_user changes c.args.self.now at new here))
    (subst (AllByRecursion (HasStanding to (tables_after changes old))) (sym same) standing) in
    moved_on to old user new_user changes c.args.self.now at new here c.take_out.new.left.items c.take_first.new.self c.in-Some.place made others stands
