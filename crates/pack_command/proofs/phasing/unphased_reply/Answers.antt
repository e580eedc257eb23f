use Rattle.std.proofs.Common.{subst}
use Rattle.std.proofs.lemmas.Result.{IfOk-weaker}
use Rattle.certificates.specs.Updates.{Update}
use Rattle.two_phase.specs.Plans.{IsTwoCause}
use Rattle.command_base.specs.Replies.{answer_of}
use Rattle.command_base.specs.Updates.{meaning_of}
use Rattle.pack_command.specs.declared.names.PackKind.TheVariants as pack_kind
use Rattle.pack_command.specs.Chosen.{IsPackPlan}
use Rattle.pack_command.proofs.ChosenLaws.{planned_by, ordered_without_tags, ordered_without_room}
use Rattle.pack_command.proofs.phasing.unphased_reply.Goals as goal

pub returns-in-TooFewTags : goal.returns-in-TooFewTags
returns-in-TooFewTags c =
    let u : Update = meaning_of c.args.files.now in
    let few = subst (IsTwoCause u.net u.old u.new) c.in-TooFewTags.is c.requires.cause in
    let is = ordered_without_tags u c.args.plan.now c.in-TooFewTags.need c.in-TooFewTags.has c.requires.ordered few in
    IfOk-weaker c.chosen_reply.result _ _ (λ r said. planned_by (IsPackPlan pack_kind.Any) u c.args.plan.now (answer_of r) is said) c.chosen_reply.ensures

pub returns-in-TooSmall : goal.returns-in-TooSmall
returns-in-TooSmall c =
    let u : Update = meaning_of c.args.files.now in
    let small = subst (IsTwoCause u.net u.old u.new) c.in-TooSmall.is c.requires.cause in
    let is = ordered_without_room u c.args.plan.now c.in-TooSmall.switch c.in-TooSmall.need c.in-TooSmall.capacity c.requires.ordered small in
    IfOk-weaker c.chosen_reply-in-TooSmall.result _ _ (λ r said. planned_by (IsPackPlan pack_kind.Any) u c.args.plan.now (answer_of r) is said) c.chosen_reply-in-TooSmall.ensures
