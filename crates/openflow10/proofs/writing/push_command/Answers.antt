use Rattle.std.proofs.lemmas.Result.{IfOk-equal}
use Rattle.openflow10.proofs.Written.{command_pushed}
use Rattle.openflow10.proofs.writing.push_command.Goals as goal

pub returns : goal.returns
returns c =
    IfOk-equal _ _ _ _ c.push_zeros-3.ensures
    (command_pushed c.args.out.now.items _ _ _ _ _ _ c.args.verb.now c.args.key.now _ c.command_number.ensures
    c.in_ok-push_zeros.ensures c.in_ok-push_u16.ensures c.in_ok-push_zeros-2.ensures c.in_ok-push_u16-2.ensures c.in_ok-push_u32.ensures c.in_ok-push_u16-3.ensures)
