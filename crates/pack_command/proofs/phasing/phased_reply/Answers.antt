use Rattle.std.proofs.Common.{inl}
use Rattle.std.proofs.lemmas.Result.{IfOk-weaker}
use Rattle.certificates.specs.Updates.{Update}
use Rattle.command_base.specs.Replies.{answer_of}
use Rattle.command_base.specs.Updates.{meaning_of}
use Rattle.pack_command.specs.Chosen.{IsPackPlan}
use Rattle.pack_command.proofs.ChosenLaws.{planned_by, only_phased}
use Rattle.pack_command.proofs.phasing.phased_reply.Goals as goal

pub returns-in-Ok : goal.returns-in-Ok
returns-in-Ok c =
    let u : Update = meaning_of c.args.files.now in
    let is = only_phased c.args.kind u c.args.tried.now c.in-Ok.plan c.requires.are_tried c.in-Ok.ensures.fits c.in-Ok.ensures.plan in
    IfOk-weaker c.chosen_reply.result _ _ (λ r said. inl (planned_by (IsPackPlan c.args.kind) u c.in-Ok.plan (answer_of r) is said)) c.chosen_reply.ensures
