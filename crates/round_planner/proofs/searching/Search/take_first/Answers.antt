use Rattle.std.proofs.Common.{◌≡◌, ◌<◌, ◌≤◌, length, get_or, refl, ◌∙◌, ap, subst, arith, take_all}
use Rattle.std.specs.List.{AllByRecursion}
use Rattle.net_base.proofs.MemberLaws.{each_set}
use Rattle.update_model.specs.Changes.{tables_after}
use Rattle.round_planner.specs.Search.{Qualifies}
use Rattle.round_planner.specs.Failures.{HasStanding, AreLeft}
use Rattle.round_planner.specs.Searching.{IsLeftTried}
use Rattle.round_planner.specs.declared.left.RemainingChange.{RemainingChange}
use Rattle.round_planner.proofs.LeftLaws.{change_of, map_set, each_there, left_in, placed, unfit_more, unfit_all}
use Rattle.round_planner.proofs.searching.Search.take_first.Goals as goal

pub try_left-requires : goal.try_left-requires
try_left-requires c =
    let to = c.args.goal.now in
    let (old, changes, user, at, are) = c.requires in
    let (same, rest) = c.loop-place.invariant in
    let (none, standing, here) = rest old changes user at are in
    let left = c.loop-place.left in
    let i = c.loop-place.place in
    let x : RemainingChange = get_or left i c.index-left-place.result in
    let less : i < length left = omega (arith, c.loop-place-test.true, c.loop-place.auto.left) in
    let is : x ≡ get_or left i x = ap (λ (z : RemainingChange). get_or left i z) c.index-left-place.is in
    let left_are : AreLeft to (tables_after changes old) left = record { changes = same ∙ are.changes; standing = standing } in
    (old, changes, user, here, left_in to old changes left i x left_are less is, each_there (HasStanding to (tables_after changes old)) left left i x less is refl standing)

pub loop-place-preserved : goal.loop-place-preserved
loop-place-preserved c =
    let to = c.args.goal.now in
    let (same, rest) = c.loop-place.invariant in
    let left = c.loop-place.left in
    let i = c.loop-place.place in
    let x : RemainingChange = get_or left i c.index-left-place.result in
    let y : RemainingChange = c.try_left.new.left in
    let less : i < length left = omega (arith, c.loop-place-test.true, c.loop-place.auto.left) in
    let is : x ≡ get_or left i x = ap (λ (z : RemainingChange). get_or left i z) c.index-left-place.is in
    let change : y.change ≡ x.change = c.in_ok-try_left.ensures.change in (
      map_set change_of left i x y less is change ∙ same,
      λ old changes user at are.
          let (none, standing, here) = rest old changes user at are in
          let left_are : AreLeft to (tables_after changes old) left = record { changes = same ∙ are.changes; standing = standing } in
          let (tried, stands) = c.in_ok-try_left.ensures.tried old changes user here (left_in to old changes left i x left_are less is)
          (each_there (HasStanding to (tables_after changes old)) left left i x less is refl standing) in
          let (fails, next) = subst (IsLeftTried to old changes x c.try_left.new.self) c.if-branch.false tried in
          (unfit_more to old changes left i x y less is change none fails, each_set (HasStanding to (tables_after changes old)) left i y standing stands, next),
    )

pub returns-then-branch-clause-changes : goal.returns-then-branch-clause-changes
returns-then-branch-clause-changes c =
    let (same, rest) = c.loop-place.invariant in
    let left = c.loop-place.left in
    let i = c.loop-place.place in
    let x : RemainingChange = get_or left i c.index-left-place.result in
    let less : i < length left = omega (arith, c.loop-place-test.true, c.loop-place.auto.left) in
    map_set change_of left i x c.try_left.new.left less (ap (λ (z : RemainingChange). get_or left i z) c.index-left-place.is) c.in_ok-try_left.ensures.change ∙ same

pub returns-then-branch-clause-placed : goal.returns-then-branch-clause-placed
returns-then-branch-clause-placed c = λ old changes user at are.
    let to = c.args.goal.now in
    let (same, rest) = c.loop-place.invariant in
    let (none, standing, here) = rest old changes user at are in
    let left = c.loop-place.left in
    let i = c.loop-place.place in
    let x : RemainingChange = get_or left i c.index-left-place.result in
    let y : RemainingChange = c.try_left.new.left in
    let less : i < length left = omega (arith, c.loop-place-test.true, c.loop-place.auto.left) in
    let is : x ≡ get_or left i x = ap (λ (z : RemainingChange). get_or left i z) c.index-left-place.is in
    let left_are : AreLeft to (tables_after changes old) left = record { changes = same ∙ are.changes; standing = standing } in
    let (tried, stands) = c.in_ok-try_left.ensures.tried old changes user here (left_in to old changes left i x left_are less is)
    (each_there (HasStanding to (tables_after changes old)) left left i x less is refl standing) in (
      placed to old changes left i x y less is c.in_ok-try_left.ensures.change left_are none c.try_left.new.self (subst (IsLeftTried to old changes x c.try_left.new.self) c.if-branch.true tried),
      each_set (HasStanding to (tables_after changes old)) left i y standing stands,
    )

pub returns-clause-placed : goal.returns-clause-placed
returns-clause-placed c = λ old changes user at are.
    let to = c.args.goal.now in
    let (same, rest) = c.loop-place.invariant in
    let (none, standing, here) = rest old changes user at are in
    let left = c.loop-place.left in
    let most : length left ≤ c.loop-place.place = omega (arith, c.loop-place-test.false, c.loop-place.auto.left) in (
      (unfit_all to old changes left (same ∙ are.changes) (subst (AllByRecursion (λ (l : RemainingChange). ¬ Qualifies to (tables_after changes old) l.change)) (take_all c.loop-place.place left most) none), here),
      standing,
    )
