use Rattle.std.proofs.Common.{List, ℕ, [], ◌-◌, drop, sym, ap, ◌∙◌, vec_len, vec_capacity}
use Rattle.switch_session.specs.Channels.{ChannelState}
use Rattle.switch_session.specs.declared.channels.Talk.{Talk}
use Rattle.switch_session.proofs.TalkLaws.{fed_failed, fed_ok}
use Rattle.switch_session.proofs.channels.Channel.feed.Goals as goal

pub returns-then-is_failed-clause-ok : goal.returns-then-is_failed-clause-ok
returns-then-is_failed-clause-ok c =
    let talk = c.self.inside.talk in
    fed_failed c.args.self.now talk c.self.inside.unread.items c.args.bytes.now (vec_capacity talk.sent - vec_len talk.sent) c.self.view_is (sym c.if-is_failed.ensures)

pub returns-clause-ok : goal.returns-clause-ok
returns-clause-ok c =
    let talk = c.self.inside.talk in
    let reserved : Talk = record talk { sent = c.reserve.new.self } in
    let with_sent : List ℕ → ChannelState = λ sent. record { session = talk.session; unread = []; sent = sent; outstanding = talk.outstanding } in
    fed_ok c.args.self.now talk c.self.inside.unread.items c.args.bytes.now (vec_capacity talk.sent - vec_len talk.sent) c.self.view_is reserved c.take_all-count.new.self c.deref.result.now
    c.remove_front.new.bytes.items c.take_all-count.result (sym c.if-is_failed.ensures) c.self.invariant (ap with_sent c.reserve.ensures.items) (c.deref.ensures.value ∙ c.in_ok-extend_from_slice.ensures.items)
    (c.remove_front.ensures ∙ ap (drop c.take_all-count.result) (sym c.deref.ensures.value)) c.take_all-count.ensures.state
