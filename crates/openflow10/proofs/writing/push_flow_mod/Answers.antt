use Rattle.std.proofs.lemmas.Result.{IfOk-equal}
use Rattle.openflow10.proofs.Written.{flow_pushed}
use Rattle.openflow10.proofs.writing.push_flow_mod.Goals as goal

pub returns : goal.returns
returns c =
    IfOk-equal _ _ _ _ c.push_verb_actions.ensures
    (flow_pushed c.args.out.now.items _ _ _ c.args.message.now c.in_ok-push_header.ensures c.in_ok-push_match.ensures c.in_ok-push_command.ensures)
