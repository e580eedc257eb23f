use Rattle.std.proofs.Common.{sym, ap, ◌∙◌, vec_len, arith}
use Rattle.update_driver.specs.declared.turns.SwitchStart.{SwitchStart}
use Rattle.switch_session.specs.Seen.{ChannelView}
use Rattle.update_driver.proofs.StartLaws.{reserved_kept, reserved_more}
use Rattle.update_driver.proofs.starts.reserve_all.Goals as goal

pub returns-in_err-reserve-clause-states : goal.returns-in_err-reserve-clause-states
returns-in_err-reserve-clause-states c =
    reserved_kept c.loop-number.number c.args.turns.now c.args.channels.now c.loop-number.channels c.reserve.new.self c.index-channels-number.result c.loop-number.invariant c.index-channels-number.is (c.reserve.ensures.state ∙ ap (λ (v : ChannelView). v.state) (sym c.index-channels-number.is))

pub loop-number-preserved : goal.loop-number-preserved
loop-number-preserved c =
    let count = c.loop-number.invariant.count in
    reserved_more c.loop-number.number c.args.turns.now c.args.channels.now c.loop-number.channels c.index-turns-number.result c.reserve.new.self c.index-channels-number.result c.loop-number.invariant (omega arith) (omega arith)
    c.index-turns-number.is c.index-channels-number.is (c.reserve.ensures.state ∙ ap (λ (v : ChannelView). v.state) (sym c.index-channels-number.is)) (let text = c.len.ensures ∙ ap (λ (t : SwitchStart). vec_len t.text) (sym c.index-turns-number.is) in omega (arith, c.in_ok-reserve.ensures.room, text, c.index-turns-number.result.text.ok.0))
