use Rattle.std.proofs.Common.{inl}
use Rattle.std.proofs.lemmas.Result.{IfOk-weaker}
use Rattle.command_base.specs.Updates.{meaning_of}
use Rattle.round_planner.specs.Updates.{update_classes}
use Rattle.pack_command.proofs.replies.pack_update.Goals as goal

pub returns-in-Ok-Broken : goal.returns-in-Ok-Broken
returns-in-Ok-Broken c = IfOk-weaker c.break_reply.result _ _ (λ r says. inl says) c.break_reply.ensures

pub returns-in-Err : goal.returns-in-Err
returns-in-Err c =
    IfOk-weaker c.no_classes_reply.result _ _ (λ r says. inl (inl (says (update_classes (meaning_of c.args.files.now)) c.in-Err.ensures.none))) c.no_classes_reply.ensures
