use Rattle.std.proofs.Common.{ap, ◌∙◌, arith}
use Rattle.switch_session.specs.Channels.{ChannelState}
use Rattle.update_driver.proofs.DriverLaws.{channel_count, channel_is}
use Rattle.update_driver.proofs.drivers.Driver.sent.Goals as goal

pub index-requires : goal.index-requires
index-requires c =
    let d = c.self.inside in
    let count = channel_count d.net.now d.rounds.now d.phase d.log.items d.channels.items d.xid c.args.self.now c.self.view_is c.self.invariant in
    omega (arith, count, d.channels.ok.0)

pub returns : goal.returns
returns c =
    let d = c.self.inside in
    c.sent.ensures
    ∙ ap (λ (x : ChannelState). x.sent) (channel_is d.net.now d.rounds.now d.phase d.log.items d.channels.items d.xid c.args.self.now c.self.view_is c.self.invariant c.args.s c.index.result.now c.requires c.index.ensures)
