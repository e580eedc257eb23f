use Rattle.std.proofs.Common.{sym, ap, ◌∙◌, arith}
use Rattle.switch_session.specs.Seen.{ChannelView}
use Rattle.update_driver.specs.Inside.{told_by_turn}
use Rattle.update_driver.proofs.StartLaws.{turn_sent}
use Rattle.update_driver.proofs.starts.ask_all.Goals as goal

pub loop-number-preserved : goal.loop-number-preserved
loop-number-preserved c =
    turn_sent c.loop-number.number c.args.turns.now c.args.channels.now c.loop-number.channels c.loop-number.invariant (omega arith) (omega arith) c.index-turns-number.result (sym c.index-turns-number.is)
    c.ask.new.channel c.index-channels-number.result c.index-channels-number.is (c.ask.ensures ∙ ap (λ (v : ChannelView). told_by_turn c.index-turns-number.result v.state) (sym c.index-channels-number.is))
