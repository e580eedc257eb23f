use Rattle.std.proofs.lemmas.Result.{IfOk-weaker}
use Rattle.command_base.specs.Updates.{meaning_of}
use Rattle.pack_command.proofs.PackedLaws.{phased_same}
use Rattle.pack_command.proofs.phasing.phase_plan.Goals as goal

pub returns-clause-count : goal.returns-clause-count
returns-clause-count c =
    IfOk-weaker c.two_phase_by_depth.result _ _ (λ p is. phased_same c.depth_rounds_count.ensures (meaning_of c.args.files.now) p c.args.tried.now is) c.two_phase_by_depth.ensures.plan
