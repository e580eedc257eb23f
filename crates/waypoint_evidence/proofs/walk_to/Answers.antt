use Rattle.std.proofs.Common.{◌≡◌, ◌+◌, ◌-◌, ◌<◌, ℕ, List, length, get_or, sym, subst, arith}
use Rattle.std.proofs.lemmas.List.{get_or_default}
use Rattle.net_base.specs.declared.ids.SwitchId.{SwitchId}
use Rattle.acyclic_numbering.specs.declared.Edge.{Edge}
use Rattle.waypoint_evidence.specs.Grown.{IsWalkBack}
use Rattle.waypoint_evidence.proofs.GrowLaws.{back_step, back_past}
use Rattle.net_base.proofs.NameLaws.{same_switch}
use Rattle.waypoint_evidence.proofs.walk_to.Goals as goal

pub loop-k-preserved-in-Continue-branch-2 : goal.loop-k-preserved-in-Continue-branch-2
loop-k-preserved-in-Continue-branch-2 c =
    let steps = c.args.steps.now in
    let k = c.loop-k.k - 1 in
    let more : 0 < c.loop-k.k = c.loop-k-test.true in
    let one : c.loop-k.k ≡ k + 1 = omega arith in
    let back = subst (λ (n : ℕ). IsWalkBack c.args.start steps n c.loop-k.at c.args.end c.loop-k.walk.items) one c.loop-k.invariant in
    let within : k < length steps = (let h = back.within in omega arith) in
    let none : Edge = record { from = record { 0 = 0 }; to = record { 0 = 0 } } in
    let e = get_or steps k none in
    subst (λ (xs : List SwitchId). IsWalkBack c.args.start steps k e.from c.args.end xs) (sym c.in_ok-push-2.ensures.items)
    (back_step c.args.start steps k c.loop-k.at c.args.end c.loop-k.walk.items e c.requires.chained back (get_or_default steps k none e within) (same_switch e.to c.loop-k.at c.if-steps-k.true))

pub loop-k-preserved : goal.loop-k-preserved
loop-k-preserved c =
    let steps = c.args.steps.now in
    let k = c.loop-k.k - 1 in
    let more : 0 < c.loop-k.k = c.loop-k-test.true in
    let one : c.loop-k.k ≡ k + 1 = omega arith in
    let back = subst (λ (n : ℕ). IsWalkBack c.args.start steps n c.loop-k.at c.args.end c.loop-k.walk.items) one c.loop-k.invariant in
    let within : k < length steps = (let h = back.within in omega arith) in
    let none : Edge = record { from = record { 0 = 0 }; to = record { 0 = 0 } } in
    let e = get_or steps k none in
    back_past c.args.start steps k c.loop-k.at c.args.end c.loop-k.walk.items e back (get_or_default steps k none e within) c.if-steps-k.false
