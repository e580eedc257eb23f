use Rattle.std.proofs.Common.{◌<◌, length, sym, subst, arith}
use Rattle.turned_rounds.specs.declared.outgoing.Outgoing.{Outgoing}
use Rattle.update_driver.proofs.ListLaws.{each_get}
use Rattle.update_driver.proofs.TurnLaws.{none_put, message_put}
use Rattle.update_driver.proofs.turns.put_messages.Goals as goal

pub loop-message-init : goal.loop-message-init
loop-message-init c = none_put c.args.turns.now.items c.requires.empty

pub put_message-requires : goal.put_message-requires
put_message-requires c =
    let messages = c.args.messages.now in
    let n = c.loop-message.message-index in
    let m = c.message-item.result in
    let lt : n < length messages = omega arith in
    let fits : m.switch.0 < length c.args.turns.now.items =
    subst (λ (x : Outgoing). x.switch.0 < length c.args.turns.now.items) (sym c.message-item.is) (each_get (λ (x : Outgoing). x.switch.0 < length c.args.turns.now.items) messages n m c.requires.within lt) in
    let count = c.loop-message.invariant.count_is in
    omega arith

pub loop-message-preserved : goal.loop-message-preserved
loop-message-preserved c =
    message_put c.args.messages.now c.loop-message.message-index (length c.args.turns.now.items) c.message-item.result c.loop-message.turns.items c.put_message.new.turns.items c.loop-message.invariant (omega arith)
    (sym c.message-item.is) c.in_ok-put_message.ensures
