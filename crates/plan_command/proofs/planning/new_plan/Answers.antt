use Rattle.std.proofs.Common.{inl, inr, subst}
use Rattle.std.proofs.lemmas.Result.{IfOk-weaker}
use Rattle.command_base.specs.Updates.{meaning_of}
use Rattle.round_planner.specs.Updates.{update_classes}
use Rattle.plan_command.specs.Ends.{IsVerdictOnEnds}
use Rattle.plan_command.proofs.NewPlanLaws.{both_ok}
use Rattle.plan_command.proofs.planning.new_plan.Goals as goal

pub returns-in-Ok-Good : goal.returns-in-Ok-Good
returns-in-Ok-Good c =
    let ends = subst (IsVerdictOnEnds (meaning_of c.args.files.now)) c.in-Ok-Good.field-0-is c.in-Ok-Good.ensures.verdict in
    both_ok c.search_reply-reply.result _ _ _ _ (λ r said tree. inr (record { few = ends.classed.few; good = ends.good; found = said; tree = tree })) c.search_reply-reply.ensures.searched c.search_reply-reply.ensures.tree

pub returns-in-Ok-Broken : goal.returns-in-Ok-Broken
returns-in-Ok-Broken c = IfOk-weaker c.break_reply.result _ _ (λ r says. inl says) c.break_reply.ensures

pub returns-in-Err : goal.returns-in-Err
returns-in-Err c =
    IfOk-weaker c.no_classes_reply.result _ _ (λ r says. inl (inl (says (update_classes (meaning_of c.args.files.now)) c.in-Err.ensures.none))) c.no_classes_reply.ensures
