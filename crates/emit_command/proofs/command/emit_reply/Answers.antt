use Rattle.std.proofs.Common.{ap}
use Rattle.emit_command.proofs.EmitLaws.{carried, answer_with}
use Rattle.emit_command.proofs.command.emit_reply.Goals as goal

pub returns : goal.returns
returns c = record {
  answer_is = ap answer_with c.in_ok-emit_lines.ensures;
  carries_out = carried c.args.net.now c.args.plan.now.rounds c.each_message_has_its_own_text.ensures c.keeps_rules.ensures c.requires.few_rounds c.requires.few_changes c.requires.rounds;
}
