use Rattle.std.proofs.Common.{◌≡◌, ◌+◌, ◌<◌, ◌∷◌, [], suc, set, get_or, take, drop, length, sym, ◌∙◌, ap, subst, arith, take_all, get_or-set_same, length-set}
use Rattle.std.specs.List.{AllByRecursion}
use Rattle.net_base.proofs.MemberLaws.{each_append}
use Rattle.update_model.specs.Changes.{tables_after_change}
use Rattle.round_planner.specs.Failures.{HasStanding, IsOfUsers}
use Rattle.round_planner.specs.declared.left.RemainingChange.{RemainingChange}
use Rattle.round_planner.proofs.SearchingLaws.{take_more}
use Rattle.round_planner.proofs.LeftLaws.{change_of, take_set, map_set, drop_set, drop_next, each_there}
use Rattle.round_planner.proofs.left.forget_touched.Goals as goal

pub loop-one-preserved : goal.loop-one-preserved
loop-one-preserved c =
    let left = c.loop-one.left in
    let i = c.loop-one.one-index in
    let old : RemainingChange = get_or left i c.one-item.result in
    let new : RemainingChange = c.forget.new.self in
    let is : old ≡ get_or left i old = ap (λ (z : RemainingChange). get_or left i z) c.one-item.is in
    let (changes, rest, standing) = c.loop-one.invariant in
    let less : i < length left = omega (arith, c.loop-one-test.true, c.loop-one.auto.left) in
    let within : i < length (set left i new) = omega (arith, less, length-set left i new) in
    let more : i + 1 ≡ suc i = omega arith in (
      map_set change_of left i old new less is c.forget.ensures.change ∙ changes,
      ap (λ n. drop n (set left i new)) more ∙ drop_set left i new ∙ drop_next left c.args.left.now i rest ∙ ap (λ n. drop n c.args.left.now) (sym more),
      λ to tables users there stands.
          let P = HasStanding to (tables_after_change c.args.made.now tables) in
          let this = c.forget.ensures.stands to tables (each_there (IsOfUsers tables) left c.args.left.now i old less is rest users) there
          (each_there (HasStanding to tables) left c.args.left.now i old less is rest stands) in
          subst (AllByRecursion P) (sym (take_more (set left i new) i new within (sym (get_or-set_same left i new new less))))
          (each_append P (take i (set left i new)) (new ∷ []) (subst (AllByRecursion P) (sym (take_set left i new)) (standing to tables users there stands)) (this, tt)),
    )

pub returns-clause-stands : goal.returns-clause-stands
returns-clause-stands c = λ to tables users within stands.
    let (changes, rest, standing) = c.loop-one.invariant in
    subst (AllByRecursion (HasStanding to (tables_after_change c.args.made.now tables))) (take_all c.loop-one.one-index c.loop-one.left (omega (arith, c.loop-one-test.false, c.loop-one.auto.left))) (standing to tables users within stands)
