use Rattle.std.proofs.Common.{None, subst}
use Rattle.command_base.specs.declared.exit.Exit.{Exit}
use Rattle.command_base.specs.Replies.{answer_of, EndsEarly}
use Rattle.command_base.proofs.DialogueLaws.{leads_early}
use Rattle.serve_command.specs.Serving.{SaysRefusal}
use Rattle.serve_command.proofs.EndLaws.{ends_wrote}
use Rattle.serve_command.proofs.command.write_exit.Goals as goal

pub returns-in-Says-clause-ends : goal.returns-in-Says-clause-ends
returns-in-Says-clause-ends g c = λ held dialogue before now selected taken early.
    ends_wrote held dialogue (g.K.Sink.written c.args.sink.now) (g.K.Sink.written c.write_reply-status.new.sink) selected taken (answer_of c.in-Says.reply) c.write_reply-status.result
    (leads_early SaysRefusal held None dialogue before now c.in-Says.reply selected taken (subst (λ (x : Exit). EndsEarly held None dialogue before now x selected taken) c.in-Says.is early))
    c.in-Says.reply.no_read_fault c.in-Says.reply.no_memory c.write_reply-status.ensures.done c.write_reply-status.ensures.front
