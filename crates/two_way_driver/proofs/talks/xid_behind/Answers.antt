use Rattle.std.proofs.Common.{◌≡◌, ℕ, ◌+◌, ◌-◌, suc, length, sym, ap, ◌∙◌, arith}
use Rattle.turned_rounds.specs.Batches.{xid_behind}
use Rattle.two_way_driver.proofs.talks.xid_behind.Goals as goal

pub loop-number-preserved : goal.loop-number-preserved
loop-number-preserved c =
    let i = c.loop-number._number in
    let n = length c.args.changes.now in
    let left : ℕ = n - (i + 1) in
    let step : n - i ≡ suc left = omega arith in
    ap (λ y. xid_behind y left) c.next_xid-xid.ensures ∙ sym (ap (xid_behind c.loop-number.xid) step) ∙ c.loop-number.invariant
