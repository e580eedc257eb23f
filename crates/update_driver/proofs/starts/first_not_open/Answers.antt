use Rattle.std.proofs.Common.{◌≡◌, ℕ, ◌+◌, ◌-◌, Bool, not, false, ◌&&◌, suc, length, get_or, sym, ap, ◌∙◌, arith}
use Rattle.net_base.specs.declared.ids.SwitchId.{SwitchId}
use Rattle.net_base.specs.Switches.{has}
use Rattle.round_messages.specs.Requests.{switch_numbered}
use Rattle.switch_session.specs.Channels.{ChannelState, first_channel, is_open}
use Rattle.switch_session.specs.Seen.{ChannelView}
use Rattle.update_driver.specs.Inside.{states_of}
use Rattle.round_messages.proofs.Marking.{found_from, not_first}
use Rattle.update_driver.proofs.StartLaws.{state_at}
use Rattle.update_driver.proofs.starts.first_not_open.Goals as goal

pub loop-number-preserved : goal.loop-number-preserved
loop-number-preserved c =
    let channels = c.args.channels.now in
    let n = c.loop-number.number in
    let x = c.index-channels-number.result in
    let p : SwitchId → Bool = λ s. not (is_open (get_or (states_of channels) s.0 first_channel).session) in
    let q : SwitchId → Bool = has c.args.changed in
    let left : ℕ = length channels - (n + 1) in
    let step : length channels - n ≡ suc left = omega arith in
    let state : get_or (states_of channels) n first_channel ≡ x.state = state_at channels n x first_channel (omega arith) ∙ ap (λ (v : ChannelView). v.state) (sym c.index-channels-number.is) in
    let fails : (q (switch_numbered n) && not (is_open (get_or (states_of channels) n first_channel).session)) ≡ false =
    ap (λ (s : ChannelState). q (switch_numbered n) && not (is_open s.session)) state ∙ ap (λ b. b && not (is_open x.state.session)) (sym c.has.ensures) ∙ sym c.if-is_missing.ensures in
    c.loop-number.invariant ∙ ap (λ (m : ℕ). found_from p q n m) step ∙ not_first p q n left fails
