use Rattle.std.proofs.Common.{ap, ◌∙◌}
use Rattle.std.proofs.lemmas.Result.{IfOk-weaker}
use Rattle.certificates.specs.declared.Plan.{Plan}
use Rattle.sample_command.proofs.SampleLaws.{summary_of}
use Rattle.sample_command.proofs.command.summary.Goals as goal

pub unreachable-requires : goal.unreachable-requires
unreachable-requires c = let ordered = ap (λ (p : Plan). p.evidence) c.requires.searched.plan_is in cc

pub returns : goal.returns
returns c =
    IfOk-weaker c.sample_line.result _ _
    (λ t is. summary_of c.args.size.switches c.args.plan.now c.requires.searched c.requires.keeps c.count.result c.args.classes c.count.ensures c.requires.rounds c.requires.counted c.requires.classes c.in-Ordered.evidence c.in-Ordered.is t.items is)
    c.sample_line.ensures
