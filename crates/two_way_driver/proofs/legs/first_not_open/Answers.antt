use Rattle.std.proofs.Common.{◌≡◌, ℕ, ◌+◌, ◌-◌, Bool, true, false, not, ◌&&◌, suc, get_or, sym, ap, ◌∙◌, arith}
use Rattle.net_base.specs.declared.ids.SwitchId.{SwitchId}
use Rattle.round_messages.specs.Requests.{is_changed, switch_numbered}
use Rattle.two_way_driver.specs.PeerStates.{PeerState}
use Rattle.two_way_driver.specs.Peers.{first_peer}
use Rattle.two_way_driver.specs.Drivers.{is_open_or_dead}
use Rattle.two_way_driver.proofs.StepLaws.{both_fail, get_or_other}
use Rattle.round_messages.proofs.Marking.{found_from, not_first}
use Rattle.two_way_driver.proofs.legs.first_not_open.Goals as goal
use Rattle.two_way_driver.proofs.legs.first_not_open.Goals.{else-is_changed-via-then-is_changed+else-not-is_open_or_dead, else-is_changed-via-else-is_changed}

pub loop-number-preserved : goal.loop-number-preserved
loop-number-preserved c =
    let peers = c.args.peers.now in
    let round = c.args.round.now in
    let n = c.loop-number.number in
    let m = c.switches-number-end.result in
    let p : SwitchId → Bool = λ s. not (is_open_or_dead (get_or peers s.0 first_peer)) in
    let q : SwitchId → Bool = is_changed round in
    let left : ℕ = m - (n + 1) in
    let step : m - n ≡ suc left = omega arith in
    let fails : (q (switch_numbered n) && p (switch_numbered n)) ≡ false = elim c.else-is_changed.branch [
      | else-is_changed-via-then-is_changed+else-not-is_open_or_dead w ↦ (
          let x = w.index-peers-number.result in
          let here : get_or peers n first_peer ≡ x = get_or_other peers n first_peer x (omega arith) ∙ sym w.index-peers-number.is in
          let open_now : is_open_or_dead x ≡ true = sym w.is_open_or_dead.ensures ∙ w.if-not-is_open_or_dead.false in
          both_fail (q (switch_numbered n)) (p (switch_numbered n)) (ap (λ (y : PeerState). not (is_open_or_dead y)) here ∙ ap not open_now))
      | else-is_changed-via-else-is_changed w ↦ ap (λ b. b && p (switch_numbered n)) (sym c.is_changed.ensures ∙ w.if-is_changed.false)
    ] in
    c.loop-number.invariant ∙ ap (λ (k : ℕ). found_from p q n k) step ∙ not_first p q n left fails
