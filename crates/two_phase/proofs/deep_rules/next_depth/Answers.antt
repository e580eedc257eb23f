use Rattle.std.proofs.Common.{◌≡◌, ◌<◌, ◌≤◌, suc, cond, length, max, sym, ◌∙◌, arith}
use Rattle.net_base.proofs.MemberLaws.{each_at}
use Rattle.two_phase.specs.Depths.{is_above}
use Rattle.two_phase.specs.declared.deep_rules.DeepRule.{DeepRule}
use Rattle.two_phase.proofs.DeepLaws.{over_next, chosen_above, chosen_other, chosen_less, in_at}
use Rattle.two_phase.proofs.deep_rules.next_depth.Goals as goal
use Rattle.two_phase.proofs.deep_rules.next_depth.Goals.{then-depth-other+then-is_above, else-depth-other, else-depth-other-via-then-depth-other+else-is_above, else-depth-other-via-else-depth-other}

pub loop-other-preserved : goal.loop-other-preserved
loop-other-preserved c =
    let before = c.args.before.now in
    let r = c.args.rule.now in
    let i = c.loop-other.other-index in
    let d : DeepRule = c.other-item.result in
    let now = c.loop-other.depth in
    let next = c.if-depth-other.depth in
    let shallow : d.depth < length before = each_at (λ (x : DeepRule). x.depth < length before) before d c.requires (in_at before i d c.loop-other-test.true c.other-item.is) in
    let chosen : next ≡ max now (cond (is_above d.rule r) (suc d.depth) 0) = elim c.if-depth-other.branch [
      | then-depth-other+then-is_above w ↦ chosen_above (is_above d.rule r) now d.depth next (sym w.is_above.ensures ∙ w.if-is_above.true) w.if-depth-other.true w.depth-is
      | else-depth-other w ↦ elim w.else-depth-other.branch [
        | else-depth-other-via-then-depth-other+else-is_above v ↦ chosen_other (is_above d.rule r) now d.depth next (sym v.is_above.ensures ∙ v.if-is_above.false) w.depth-is
        | else-depth-other-via-else-depth-other v ↦ chosen_less (is_above d.rule r) now d.depth next v.if-depth-other.false w.depth-is
      ]
    ] in
    let few : next ≤ length before = elim c.if-depth-other.branch [
      | then-depth-other+then-is_above w ↦ (let e = w.depth-is in omega arith)
      | else-depth-other w ↦ (let e = w.depth-is in let low = c.loop-other.invariant.1 in omega arith)
    ] in
    (over_next r before i d d c.loop-other-test.true c.other-item.is now next c.loop-other.invariant.0 chosen, few)
