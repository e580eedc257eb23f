use Rattle.std.proofs.Common.{◌≡◌, sym, ap, ◌∙◌}
use Rattle.std.specs.Prelude.{None, []}
use Rattle.switch_session.specs.Channels.{hello, after_request, after_bytes}
use Rattle.switch_session.specs.Seen.{ChannelView}
use Rattle.two_way_driver.specs.Peers.{opened_anew}
use Rattle.two_way_driver.proofs.StepLaws.{hello_opens}
use Rattle.two_way_driver.proofs.peers.open_channel.Goals as goal
use Rattle.two_way_driver.proofs.peers.open_channel.Goals.{in-Some, in_default}

pub returns : goal.returns
returns c =
    let fed : c.feed.new.self.state ≡ opened_anew None = c.in_ok-feed.ensures.ok ∙ ap (after_bytes hello) c.in_ok-channel.ensures ∙ hello_opens in
    elim c.match-outstanding.branch [
      | in-Some w ↦ ap (λ (v : ChannelView). v.state) w.channel-is ∙ w.ask.ensures ∙ ap (after_request [] w.in-Some.xid) fed ∙ ap opened_anew (sym w.in-Some.is)
      | in_default w ↦ ap (λ (v : ChannelView). v.state) w.channel-is ∙ fed ∙ ap opened_anew (sym w.in_default.is)
    ]
