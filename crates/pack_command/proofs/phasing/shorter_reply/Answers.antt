use Rattle.std.proofs.Common.{◌*◌, ◌<◌, length, inl, inr, refl, arith}
use Rattle.std.proofs.lemmas.Result.{IfOk-weaker}
use Rattle.certificates.specs.Updates.{Update}
use Rattle.command_base.specs.Replies.{answer_of}
use Rattle.command_base.specs.Updates.{meaning_of}
use Rattle.pack_command.specs.declared.names.PackKind.TheVariants as pack_kind
use Rattle.pack_command.specs.Chosen.{IsPackPlan, phased_count}
use Rattle.pack_command.proofs.ChosenLaws.{planned_by}
use Rattle.pack_command.proofs.phasing.shorter_reply.Goals as goal

pub returns-else-count : goal.returns-else-count
returns-else-count c =
    let u : Update = meaning_of c.args.files.now in
    let longer = c.if-count.false in
    let phased = c.count-2.ensures in
    let ordered = c.count.ensures in
    let count = c.requires.count in
    let many : 2 * phased_count u < length c.args.plan.now.rounds = omega (arith, longer, phased, ordered, count) in
    let is : IsPackPlan pack_kind.Any u c.args.phased.now =
    inr (inl (record { longer = c.args.plan.now; ordered = c.requires.ordered; fits = c.requires.fits; many = many; plan_is = c.requires.phased })) in
    IfOk-weaker c.chosen_reply-else-count.result _ _ (λ r said. planned_by (IsPackPlan pack_kind.Any) u c.args.phased.now (answer_of r) is said) c.chosen_reply-else-count.ensures
